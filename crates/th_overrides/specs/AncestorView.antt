-- A class above another, without where it lies in memory.
use Rattle.th_type.specs.Types.{list_of, tys_of}
use Rattle.th_scope.specs.ItemView.{class_of}
use Rattle.th_overrides.specs.declared.ancestor.Ancestor.{Ancestor}
use Rattle.th_overrides.specs.Chain.{AboveClass, above_class}

abbrev pub ancestor_of : Ancestor → AboveClass
ancestor_of a = above_class (class_of a.class.now) (list_of (tys_of a.args))
