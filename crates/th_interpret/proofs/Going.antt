-- Many steps of a run.
use Rattle.std.proofs.Common.{◌≡◌, refl, sym, ap, ◌∙◌, subst, ℕ, suc, ◌+◌, List, [], ◌++◌, append-nil, Option, Some, None, option_map}
use Rattle.th_world.specs.Event.{Prefix}
use denote.Ref.{Bor}
use Rattle.th_meaning.specs.declared.stmt.CoreBody.{CoreBody}
use Rattle.th_meaning.specs.Trees.{ExprTree, BodyTree}
use Rattle.th_meaning.specs.View.{body_of}
use Rattle.th_meaning.specs.Program.{Program}
use Rattle.th_meaning.specs.Run.{start}
use Rattle.th_steps.specs.Machine.{Machine, At, Stopped, now_eval, now_body, step, steps}
use Rattle.th_meaning.specs.Meaning.{Value}
use Rattle.th_control.specs.declared.control.Now.{Now}
use Rattle.th_control.specs.declared.control.Control.{Control}
use Rattle.th_control.specs.declared.control.Now.TheVariants.{Value as NowValue, Body as NowBody}
use Rattle.th_control.specs.Config.{now_of, loop_of, rest_of, frames_of, state_of}
use Rattle.th_control.specs.Acts.{the_loop, the_rest}
use Rattle.th_store.specs.Alike.{Alike}
use Rattle.th_traces.specs.Traces.{trace_at}
use Rattle.th_traces.proofs.Running.{steps_next, steps_more, prefix_same}
use Rattle.th_acts.specs.declared.runner.Runner.{Runner}
use Rattle.th_acts.specs.declared.runner.Over.{Over as CodeOver}
use Rattle.th_acts.specs.declared.runner.Next.{Next}
use Rattle.th_acts.specs.declared.runner.Next.TheVariants.{Go, Over}
use Rattle.th_acts.specs.Stands.{Told, Leads, LeadsOn}
use Rattle.th_quick.specs.Quick.{IsQuick}
use Rattle.th_quick.specs.Statements.{BodyGoes}
use Rattle.th_acts.specs.Parts.{Partly}
use Rattle.th_acts.proofs.Acts.{stands_same}
use Rattle.th_interpret.specs.Begins.{Starts, Begins}

-- the machine comes to where the run goes on, or is over
abbrev pub Reaches : Told → Runner → (left now : Option (List ℕ)) → Next → Machine → Type 0
Reaches e r left now next m = (n : ℕ) × Leads e r left now next (steps e.program n m)

-- no step was done
pub no_steps : (e : Told) (r : Runner) (left now : Option (List ℕ)) (next : Next) (m : Machine) → Leads e r left now next m → Reaches e r left now next m
no_steps e r left now next m h = (0, h)

-- some steps more
pub some_more : (e : Told) (old new : Runner) (left now left1 now1 : Option (List ℕ)) (at : Now) (next : Next) (m : Machine) → Reaches e old left now (Go at) m
    → ((x : Machine) → LeadsOn e old left now at x → (n : ℕ) × Leads e new left1 now1 next (steps e.program n x)) → Reaches e new left1 now1 next m
some_more e old new left now left1 now1 at next m h leads =
    let s : (n : ℕ) × Leads e new left1 now1 next (steps e.program n (steps e.program h.0 m)) = leads (steps e.program h.0 m) h.1 in
    (h.0 + s.0, subst (Leads e new left1 now1 next) (sym (steps_more e.program h.0 s.0 m)) s.1)

module _ (e : Told) (r : Runner) (left now : Option (List ℕ)) (m : Machine) where
  -- the steps to the value of a short expression
  pub value_leads : (at : Now) (expr : ExprTree) (v : Value) → now_of at ≡ now_eval expr → IsQuick r.control.frame expr v → LeadsOn e r left now at m
      → (n : ℕ) × LeadsOn e r left now (NowValue v) (steps e.program n m)
  value_leads at expr v same quickly from =
      let q = quickly e.program (the_loop r.control) (the_rest r.control) (state_of r.control from.world) refl in (
        q.0,
        record {
          world = from.world;
          is = ap (steps e.program q.0) (from.is ∙ ap (λ x. At x (the_loop r.control) (the_rest r.control) (state_of r.control from.world)) same) ∙ q.1;
          stands = from.stands;
        },
      )

  -- the steps over a statement that binds a local to one
  pub body_leads : (at : Now) (c : Control) (body : BodyTree) (others : Bor CoreBody) → now_of at ≡ now_body body → BodyGoes r.control.frame body c.frame (body_of others.now) → c.rest ≡ r.control.rest
      → c.homes ≡ r.control.homes → LeadsOn e r left now at m → (n : ℕ) × LeadsOn e (record r { control = c }) left now (NowBody others) (steps e.program n m)
  body_leads at c body others same goes rest homes from =
      let q = goes e.program (the_loop r.control) (the_rest r.control) (state_of r.control from.world) refl in (
        q.0,
        record {
          world = from.world;
          is =
              ap (steps e.program q.0) (from.is ∙ ap (λ x. At x (the_loop r.control) (the_rest r.control) (state_of r.control from.world)) same)
              ∙ q.1
              ∙ ap (λ hs. At (now_body (body_of others.now)) (loop_of hs) (rest_of (loop_of hs) r.control.rest) (record { frame = c.frame; homes = frames_of hs; world = from.world })) (sym homes)
              ∙ ap (λ ks. At (now_body (body_of others.now)) (loop_of c.homes) (rest_of (loop_of c.homes) ks) (record { frame = c.frame; homes = frames_of c.homes; world = from.world })) (sym rest);
          stands = stands_same e r (record r { control = c }) left now from.world from.stands refl refl refl;
        },
      )

-- a step that was cut off
pub cut_off : (e : Told) (old : Runner) (left now left1 now1 : Option (List ℕ)) (at : Now) (m : Machine) → Reaches e old left now (Go at) m
    → ((x : Machine) → LeadsOn e old left now at x → Partly e left1 now1 (step e.program x)) → (n : ℕ) × Partly e left1 now1 (steps e.program n m)
cut_off e old left now left1 now1 at m h part = (suc h.0, subst (Partly e left1 now1) (sym (steps_next e.program h.0 m)) (part (steps e.program h.0 m) h.1))

part_of : (e : Told) (r : Runner) (left now : Option (List ℕ)) (next : Next) (m : Machine) → Leads e r left now next m → Partly e left now m
part_of e r left now (Go at) m h = record {
  part = h.world.trace;
  rest = h.world.input;
  is_prefix = subst (λ x. Prefix h.world.trace (trace_at x)) (sym h.is) (prefix_same h.world.trace);
  shows = h.stands.shows;
}
part_of e r left now (Over over) m h = record {
  part = trace_at (Stopped h.outcome);
  rest = h.rest;
  is_prefix = subst (λ x. Prefix (trace_at (Stopped h.outcome)) (trace_at x)) (sym h.is) (prefix_same (trace_at (Stopped h.outcome)));
  shows = h.shows;
}

-- no step is left
pub too_long : (e : Told) (r : Runner) (left now : Option (List ℕ)) (next : Next) (m : Machine) → Reaches e r left now next m → (n : ℕ) × Partly e left now (steps e.program n m)
too_long e r left now next m h = (h.0, part_of e r left now next (steps e.program h.0 m) h.1)

-- before the first step the streams show nothing
pub before_first : (e : Told) (turns : ℕ) (room : Option ℕ) (r : Runner) (left now : Option (List ℕ)) (m : Machine) → Begins e turns room r left now → (n : ℕ) × Partly e left now (steps e.program n m)
before_first e turns room r left now m begins = (
  0,
  record {
    part = [];
    rest = e.had;
    is_prefix = record { more = trace_at m; is = sym (append-nil (trace_at m)) };
    shows = begins.stands.shows;
  },
)

-- the run before its first step has what the world has at the start
pub begins : (p : Program) (had : List ℕ) (left now : Option (List ℕ)) (turns : ℕ) (room : Option ℕ) (r : Runner) → Starts p turns room r → left ≡ Some had
    → Begins (record { program = p; had = had; before = now }) turns room r left now
begins p had left now turns room r is there = record {
  stands = record {
    tables = is.tables;
    alike = subst (Alike (start had room turns)) (sym is.store) (record { turns = refl; room = refl; objects = tt });
    shows = record { left = there; taken = refl; put = no_puts now };
    units = is.entered;
  };
  rest = is.rest;
  homes = is.homes;
}
  where
    no_puts : (now : Option (List ℕ)) → now ≡ option_map (λ bytes. bytes ++ []) now
    no_puts None = refl
    no_puts (Some bytes) = ap Some (sym (append-nil bytes))
