-- One more statement: its byte is the next one.
use Rattle.std.proofs.Common.{◌≡◌, ◌∷◌, ◌++◌, [], sym, ap, ◌∙◌}
use Rattle.th_meaning.specs.Trees.{more_stmts}
use Rattle.th_meaning.specs.View.{body_of, stmt_of}
use Rattle.th_puts.proofs.Forms.{ended, grows, bytes_grow, no_bytes}
use Rattle.th_puts.proofs.form.bytes_of.Goals as goal

pub returns-in-None-clause-none : goal.returns-in-None-clause-none
returns-in-None-clause-none c =
    let first : body_of c.loop-rest.rest.now ≡ more_stmts (stmt_of c.deref.result.now) (body_of c.in-MoreStmt.others.value) =
    ap body_of c.in-MoreStmt.is ∙ ap (λ s. more_stmts (stmt_of s) (body_of c.in-MoreStmt.others.value)) (sym c.deref.ensures) in
    no_bytes (body_of c.args.body.now) (body_of c.loop-rest.rest.now) (body_of c.in-MoreStmt.others.value) (stmt_of c.deref.result.now) c.loop-rest.bytes.items c.loop-rest.invariant.before first c.in-None.ensures.none

pub loop-rest-preserved : goal.loop-rest-preserved
loop-rest-preserved c =
    let first : body_of c.loop-rest.rest.now ≡ more_stmts (stmt_of c.deref.result.now) (body_of c.deref-rest.result.now) =
    ap body_of c.in-MoreStmt.is
    ∙ ap (λ s. more_stmts (stmt_of s) (body_of c.in-MoreStmt.others.value)) (sym c.deref.ensures)
    ∙ ap (λ b. more_stmts (stmt_of c.deref.result.now) (body_of b)) (sym c.deref-rest.ensures) in
    let now : c.push.new.self.items ≡ c.loop-rest.bytes.items ++ c.in-Some.byte ∷ [] = c.in_ok-push-in-Some.ensures.items in
    record {
      before = grows (body_of c.args.body.now) (body_of c.loop-rest.rest.now) (body_of c.deref-rest.result.now) (stmt_of c.deref.result.now) c.loop-rest.bytes.items c.push.new.self.items c.in-Some.byte c.loop-rest.invariant.before first c.in-Some.ensures.some now;
      are_bytes = bytes_grow c.loop-rest.bytes.items c.push.new.self.items c.in-Some.byte c.loop-rest.invariant.are_bytes c.in-Some.ensures.small now;
    }

pub returns-in-NoStmt-clause-some : goal.returns-in-NoStmt-clause-some
returns-in-NoStmt-clause-some c =
    (ended (body_of c.args.body.now) (body_of c.loop-rest.rest.now) c.loop-rest.bytes.items c.loop-rest.invariant.before (ap body_of c.in-NoStmt.is), c.loop-rest.invariant.are_bytes)
