use Rattle.std.proofs.Common.{◌≡◌, ◌+◌, [], min, length, take, vec_items, sym, refl, ap, ◌∙◌, arith, rules}
use Rattle.std.proofs.lemmas.List.{take_more, take_all, take_min}
use Rattle.book.specs.Books.{book_of}
use Rattle.perform.proofs.Underway.{stands_as, stands_more}
use Rattle.perform.proofs.perform.perform.Goals as goal

pub loop-call-preserved : goal.loop-call-preserved
loop-call-preserved g c =
    let inv = c.loop-call.invariant in
    let made = take c.min.result c.args.calls.now in record {
      stands = λ b s h o u.
          stands_more g.S.Store g.H.Host g.O.Order b s h o c.loop-call.run (take c.loop-call.call-index made) (take (c.loop-call.call-index + 1) made) (vec_items c.loop-call.answers) (vec_items c.push_reserved.new.self) _ c.make-next.result.0 c.make-next.result.1
          (take_more made c.loop-call.call-index _ c.loop-call-test.true) c.push_reserved.ensures.items (inv.stands b s h o u) c.make-next.ensures.does;
      count = c.push_reserved.ensures.len ∙ ap (λ n. n + 1) inv.count;
      room = omega (arith, c.push_reserved.ensures.capacity, inv.room);
    }

pub returns : goal.returns
returns g c =
    let inv = c.loop-call.invariant in
    let made = take c.min.result c.args.calls.now in
    let least : c.min.result ≡ min c.args.room.places (length c.args.calls.now) = search rules in
    let all_made : take c.loop-call.call-index made ≡ take c.args.room.places c.args.calls.now =
    take_all c.loop-call.call-index made c.loop-call-test.false ∙ ap (λ n. take n c.args.calls.now) least ∙ take_min c.args.room.places c.args.calls.now in
    let opened =
    stands_as g.S.Store g.H.Host g.O.Order (book_of c.args.book) c.args.store c.args.host c.args.order c.start-run.result [] [] [] (vec_items c.args.room.answers)
    refl c.args.room.empty c.start-run.ensures.stands in
    let stands =
    stands_as g.S.Store g.H.Host g.O.Order (book_of c.args.book) c.args.store c.args.host c.args.order c.loop-call.run (take c.loop-call.call-index made) (take c.args.room.places c.args.calls.now)
    (vec_items c.loop-call.answers) (vec_items c.loop-call.answers) (sym all_made) refl
    (inv.stands (book_of c.args.book) c.args.store c.args.host c.args.order opened) in
    record {
      stands = stands;
      whole = λ few.
          stands_as g.S.Store g.H.Host g.O.Order (book_of c.args.book) c.args.store c.args.host c.args.order c.loop-call.run (take c.args.room.places c.args.calls.now) c.args.calls.now
          (vec_items c.loop-call.answers) (vec_items c.loop-call.answers) (sym (take_all c.args.room.places c.args.calls.now few)) refl stands;
    }
