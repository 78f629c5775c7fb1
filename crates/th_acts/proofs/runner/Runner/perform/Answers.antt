use Rattle.std.proofs.Common.{subst, sym, to_z-of_z, w64, rules}
use Rattle.th_control.specs.declared.control.Act.TheVariants.{Element, SetElement}
use Rattle.th_control.specs.Acts.{doing}
use Rattle.th_acts.specs.Stands.{Leads}
use Rattle.th_acts.proofs.runner.Runner.perform.Goals as goal

pub returns-in-Element-clause-done : goal.returns-in-Element-clause-done
returns-in-Element-clause-done g c = λ e w h.
    subst (λ a. Leads e c.args.self.now (g.S.Source.left c.args.input.now) (g.K.Sink.put_bytes c.args.output.now) c.element.result (doing e.program a c.args.self.now.control w)) (sym c.in-Element.is)
    (subst (λ i. Leads e c.args.self.now (g.S.Source.left c.args.input.now) (g.K.Sink.put_bytes c.args.output.now) c.element.result (doing e.program (Element c.in-Element.number i) c.args.self.now.control w))
    (to_z-of_z {w = w64} {z = c.in-Element.index} (search rules)) (c.element.ensures e (g.S.Source.left c.args.input.now) (g.K.Sink.put_bytes c.args.output.now) w h))

pub returns-in-SetElement-clause-done : goal.returns-in-SetElement-clause-done
returns-in-SetElement-clause-done g c = λ e w h.
    subst (λ a. Leads e c.set_element.new.self (g.S.Source.left c.args.input.now) (g.K.Sink.put_bytes c.args.output.now) c.set_element.result (doing e.program a c.args.self.now.control w)) (sym c.in-SetElement.is)
    (subst (λ i. Leads e c.set_element.new.self (g.S.Source.left c.args.input.now) (g.K.Sink.put_bytes c.args.output.now) c.set_element.result
    (doing e.program (SetElement c.in-SetElement.number i c.in-SetElement.value) c.args.self.now.control w))
    (to_z-of_z {w = w64} {z = c.in-SetElement.index} (search rules)) (c.set_element.ensures e (g.S.Source.left c.args.input.now) (g.K.Sink.put_bytes c.args.output.now) w h))
