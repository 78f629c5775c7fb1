-- The objects of the code as those of the meaning.
use Rattle.th_meaning.specs.World.{Object, Instance, Array}
use Rattle.th_meaning.specs.Meaning.{Value}
use Rattle.th_store.specs.declared.object.ObjectKind.{ObjectKind}
use Rattle.th_store.specs.declared.object.ObjectKind.TheVariants.{Instance as AnInstance, Array as AnArray}

-- the object that the meaning has
abbrev pub object_of : ObjectKind → Object Value
object_of (AnInstance class slots) = Instance class.now slots.items
object_of (AnArray elements) = Array elements.items
