use Rattle.std.proofs.Common.{◌≡◌, ◌∙◌, ℕ, ◌<◌, List, ◌∷◌, length, map, get_or, refl, ap, subst, arith, rules}
use Rattle.th_tree.specs.DeclView.{interface_of, module_of as tree_of}
use Rattle.th_meaning.specs.View.{module_of, unit_of}
use Rattle.th_hier.proofs.Failing.{mapped_push}
use Rattle.th_program.specs.Programs.{with_texts}
use Rattle.th_scope.specs.View.{items_of}
use Rattle.th_checked.specs.Made.{IsMade}
use Rattle.th_checked.proofs.Making.{no_more_at, one_more_at}
use Rattle.th_checked.proofs.modules.all_modules.Goals as goal

pub loop-own-preserved : goal.loop-own-preserved
loop-own-preserved c =
    let k = c.loop-own.k in
    let C = c.args.common.now in
    let is = with_texts C.texts.now (map interface_of C.interfaces.now) in
    let fs = map interface_of C.interfaces.now in
    let m = c.index-modules-k.result in
    let known = c.index-known-k.result in
    let left : c.loop-own.own-iterator.rest.items ≡ c.in-Some.own ∷ c.next.new.self.rest.items = search rules in
    let below : k < length c.args.modules.now = omega (arith, c.loop-own.invariant.count, ap length left) in
    let made = subst (λ (t : List (List ℕ)). IsMade t C.hierarchy.now C.tokens.now C.heads.now is fs C.places.now (get_or c.args.texts.now k 0) (tree_of m) (items_of known.items) (map unit_of c.in-Some.own.items) (module_of c.in_ok-module.module))
    c.loop-own.invariant.names c.in_ok-module.ensures.made in
    record {
      names = c.in_ok-module.ensures.names ∙ c.loop-own.invariant.names;
      count = omega (arith, c.loop-own.invariant.count, ap length left);
      leads = one_more_at c.args.names.now C.hierarchy.now C.tokens.now C.heads.now is fs C.places.now c.args.texts.now c.args.modules.now c.args.known.now
          c.loop-own.own-iterator.rest.items c.next.new.self.rest.items c.in-Some.own k m known
          (with_texts c.args.texts.now (map tree_of c.args.modules.now)) (map (λ k. items_of k.items) c.args.known.now) (map (λ u. map unit_of u.items) c.args.units.items)
          (map module_of c.loop-own.done.items) (map module_of c.push.new.self.items) (module_of c.in_ok-module.module)
          c.requires.texts c.requires.known below c.index-modules-k.is c.index-known-k.is left c.loop-own.invariant.leads made
          (mapped_push module_of c.loop-own.done.items c.push.new.self.items c.in_ok-module.module (module_of c.in_ok-module.module) c.in_ok-push.ensures.items refl);
    }

pub returns-clause-made : goal.returns-clause-made
returns-clause-made c =
    let C = c.args.common.now in
    let none : length c.loop-own.own-iterator.rest.items ≡ 0 = search rules in
    no_more_at c.args.names.now C.hierarchy.now C.tokens.now C.heads.now (with_texts C.texts.now (map interface_of C.interfaces.now)) (map interface_of C.interfaces.now) C.places.now
    c.args.texts.now c.args.modules.now c.args.known.now c.loop-own.own-iterator.rest.items c.loop-own.k
    (with_texts c.args.texts.now (map tree_of c.args.modules.now)) (map (λ k. items_of k.items) c.args.known.now) (map (λ u. map unit_of u.items) c.args.units.items)
    (map module_of c.loop-own.done.items) c.requires.known c.loop-own.invariant.count none c.loop-own.invariant.leads
