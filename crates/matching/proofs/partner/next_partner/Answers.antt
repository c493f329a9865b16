use Rattle.std.proofs.Common.{sym, subst, arith}
use Rattle.matching.specs.Parts.{Later}
use Rattle.matching.proofs.Partners.{walk_ends, walk_finds, walk_passes, next_spare}
use Rattle.matching.proofs.partner.next_partner.Goals as goal

pub returns-in_err-after : goal.returns-in_err-after
returns-in_err-after g c = record {
  later = subst (Later c.args.from) (sym c.from_residual.ensures) tt;
  found = λ r. absurd (next_spare c.args.head c.args.used.now c.args.env (g.S.Store.live c.args.store.now) c.loop-id.at c.in-Some.id r.spare (c.in-Some.ensures.value r.kept) c.in_err-after.ensures);
}

pub returns-in-Some-matched : goal.returns-in-Some-matched
returns-in-Some-matched g c = record {
  later = (
    omega (arith, c.in_ok-after.ensures, c.in-Some.ensures.bound, c.loop-id.invariant.0),
    omega (arith, c.in_ok-after.ensures),
  );
  found = λ r.
      walk_finds c.args.head c.args.used.now c.args.env (g.S.Store.live c.args.store.now) c.args.from c.loop-id.at (c.loop-id.invariant.1 r) _ _ _ (g.met.S.Store.rising _ r.kept)
      (c.in-Some.ensures.value r.kept) (c.in-Some-matched.ensures.value r) c.in_ok-after.ensures.1;
}

pub loop-id-preserved : goal.loop-id-preserved
loop-id-preserved g c = (
  omega (arith, c.in_ok-after.ensures, c.in-Some.ensures.bound, c.loop-id.invariant.0),
  λ r.
      walk_passes c.args.head c.args.used.now c.args.env (g.S.Store.live c.args.store.now) c.args.from c.loop-id.at (c.loop-id.invariant.1 r) _ _ (g.met.S.Store.rising _ r.kept)
      (c.in-Some.ensures.value r.kept) (c.in_default-matched.ensures.value r) c.in_ok-after.ensures.1,
)

pub returns : goal.returns
returns g c = record { later = tt; found = λ r. walk_ends c.args.head c.args.used.now c.args.env (g.S.Store.live c.args.store.now) c.args.from c.loop-id.at (c.loop-id.invariant.1 r) (c.in_default.ensures.value r.kept) }
