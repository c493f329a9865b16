use Rattle.std.proofs.Common.{◌+◌, drop, sym, ◌∙◌, subst}
use Rattle.firing.specs.Room.{Room}
use Rattle.firing.proofs.Rooms.{write_room, write_more}
use Rattle.firing.proofs.write.write_body.Goals as goal

pub loop-fact-preserved : goal.loop-fact-preserved
loop-fact-preserved g c =
    let inv = c.loop-fact.invariant in
    let added = c.in-Ok.ensures.added in
    record {
      sound = λ s. added.sound (inv.sound s);
      rows = added.rows ∙ inv.rows;
      live = λ s room.
          let left = inv.live s room in (
            subst (λ n. Room (g.S.Store.live c.add.new.store) n c.in-Some.after (drop (c.loop-fact.fact-index + 1) c.args.facts.now)) (sym added.rows)
                (write_room _ _ _ _ _ _ c.loop-fact-test.true left.0 _ _ (added.live (inv.sound s)) c.in-Some.ensures.value),
            write_more _ _ _ _ _ _ c.loop-fact-test.true left.0 _ _ (added.live (inv.sound s)) c.in-Some.ensures.value ∙ left.1,
          );
    }
