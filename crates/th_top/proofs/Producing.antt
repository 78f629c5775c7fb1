-- What is built of a text: an image that can be written and loaded.
use Rattle.std.proofs.Common.{◌≡◌, ℕ, ◌<◌, ◌≤◌, List, length, None, ap, ◌∙◌, arith}
use Rattle.th_meaning.specs.Program.{Program}
use Rattle.th_elf.specs.declared.image.Image.{Image}
use Rattle.th_elf.specs.Written.{written, content}
use Rattle.th_elf.specs.Loadable.{first_failing, segments_of}
use Rattle.th_elf.specs.Run.{loaded}
use Rattle.th_elf.proofs.Form.{length_content, written_loadable}
use Rattle.th_link.specs.Agrees.{loaded_image}
use Rattle.th_link.specs.Puts.{IsLawful}
use Rattle.th_mach.specs.Counted.{Counted, fresh}
use Rattle.th_top.specs.declared.build.Product.{Product}
use Rattle.th_top.specs.Answers.{region_size}
use Rattle.th_top.specs.Built.{IsProductOf, Ends}

-- the file of a lawful image is loadable
pub file_loadable : (image : Image) (file : List ℕ) → IsLawful image → file ≡ written image → first_failing file ≡ None
file_loadable image file l is =
    let some : 0 < length (content image) = omega (arith, length_content image, l.some_code) in
    let fits : length (content image) ≤ 134152192 = omega (arith, length_content image, l.size) in
    ap first_failing is ∙ written_loadable image l.entry some fits

-- the machine that was loaded from an image's file
pub loaded_of : (image : Image) (items bytes : List ℕ) (m : Counted) → items ≡ written image → bytes ≡ items → m ≡ fresh (loaded (segments_of bytes) 1048576) → m ≡ fresh (loaded_image image region_size)
unfolding loaded_image
loaded_of image items bytes m file same is = is ∙ ap (λ b. fresh (loaded (segments_of b) 1048576)) (same ∙ file)

-- a product's machine ends by itself
pub ends_of : (modules : Program) (p : Product) → IsProductOf modules p → Ends p.machine
ends_of modules p is = record { image = is.image; in_time = is.ends; lawful = is.lawful; loaded = is.loaded }
