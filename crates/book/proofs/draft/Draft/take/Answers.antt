use Rattle.std.proofs.Common.{◌≡◌, Err, rules}
use Rattle.book.specs.Drafts.{entered}
use Rattle.book.specs.Held.{tables_of}
use Rattle.book.proofs.Cases.{told_err}
use Rattle.book.proofs.Soundness.{refused_sound, taken_sound}
use Rattle.book.proofs.draft.Draft.take.Goals as goal

pub invariant_of-self : goal.invariant_of-self
invariant_of-self c =
    let e = c.in_err-enter.ensures.done in
    record { sound = refused_sound c.args.self.now.state c.in_ok-record.record (tables_of c.args.self.now.tables) (tables_of c.enter.new.self) c.in_err-enter.field-0.0 e.value e.after c.args.self.now.sound }

pub returns-in_err-enter : goal.returns-in_err-enter
returns-in_err-enter c =
    let e : entered (tables_of c.args.self.now.tables) c.in_ok-record.record ≡ Err c.in_err-enter.field-0.0 =
    told_err _ _ c.in_err-enter.ensures.done.value in
    search rules

pub invariant_of-self-2 : goal.invariant_of-self-2
invariant_of-self-2 c =
    let e = c.in_ok-enter.ensures.done in record {
      sound = taken_sound c.args.self.now.state c.in_ok-next.next c.in_ok-kind.kind c.args.bytes.now c.in_ok-record.record (tables_of c.args.self.now.tables) (tables_of c.enter.new.self) _
          c.in_ok-next.ensures.value c.in_ok-record.ensures.value e.value e.after c.args.self.now.sound;
    }
