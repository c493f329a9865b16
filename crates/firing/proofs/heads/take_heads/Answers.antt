use Rattle.std.proofs.Common.{sym, ◌∙◌}
use Rattle.firing.proofs.Paired.{off_more, off_all}
use Rattle.firing.proofs.heads.take_heads.Goals as goal

pub loop-head-preserved : goal.loop-head-preserved
loop-head-preserved g c =
    let inv = c.loop-head.invariant in
    let taken = c.take_head.ensures.taken in
    record {
      sound = λ s. taken.sound (inv.sound s);
      rows = taken.rows ∙ inv.rows;
      live = λ s. sym (off_more c.loop-head.head-iterator c.next.new.self c.next.result c.next.ensures.steps _ _ (c.in-Some.head, c.in-Some.id) c.in-Some.is (taken.live (inv.sound s))) ∙ inv.live s;
    }

pub returns : goal.returns
returns g c =
    let inv = c.loop-head.invariant in
    record {
      taken = record { sound = inv.sound; rows = inv.rows; live = λ s. sym (off_all c.loop-head.head-iterator c.next.new.self c.next.result c.next.ensures.steps _ c.in-None.is) ∙ inv.live s };
    }
