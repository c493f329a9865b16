use Rattle.std.proofs.Common.{◌≡◌, ◌≤◌, [], length, take, vec_items, vec_len, vec_capacity}
use Rattle.book.specs.Books.{Book}
use Rattle.run.specs.Runs.{Stands}
use Rattle.perform.proofs.perform.perform.Given as goal

-- wherever the run stood when it was opened, it stands with the calls made so far, and there is room for
-- the answers to come
abbrev pub invariant-loop-call : goal.invariant-loop-call
invariant-loop-call g l = record {
  stands :
      (b : Book) (s : g.row.S.Denot) (h : g.row.H.Denot) (o : g.row.O.Denot) → Stands g.S.Store g.H.Host g.O.Order b s h o [] l.initial.run (vec_items l.initial.answers)
      → Stands g.S.Store g.H.Host g.O.Order b s h o (take l.call-index l.made) l.run (vec_items l.answers);
  count : vec_len l.answers ≡ l.call-index;
  room : length l.made ≤ vec_capacity l.answers;
}
