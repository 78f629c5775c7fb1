use Rattle.std.specs.Prelude.{IsTrue}
use Rattle.th_views.proofs.Bridged.{arrives, gap_is}
use Rattle.th_views.proofs.bridge_laws.Goals as goal

pub returns : goal.returns
returns c = λ less self on put chain m x t b a q u v h g e.
    let k = arrives (λ s t. IsTrue (less s t)) self on put chain m x t b a q u v h g e in
    record {
      result = k.result;
      is = k.is;
      returned = k.returned;
      conforms = k.conforms;
      named = λ dist z. gap_is (λ s t. IsTrue (less s t)) self on put dist z t m k.result q a e k.conforms;
    }
