-- A run on which calls are being made stands on those made so far.
use Rattle.std.proofs.Common.{◌≡◌, List, [], ◌∷◌, ◌++◌, sym, subst}
use Rattle.host.specs.declared.host.Host.{Ghosts as HostMeaning}
use Rattle.order.specs.declared.order.Order.{Ghosts as OrderMeaning}
use Rattle.store.specs.declared.Store.{Ghosts as StoreMeaning}
use Rattle.book.specs.Books.{Book}
use Rattle.tally.specs.declared.answers.Answer.{Answer}
use Rattle.tally.specs.declared.calls.Call.{Call}
use Rattle.run.specs.declared.run.Run.{Run}
use Rattle.run.specs.Runs.{Stands, Does}

module _ {S H O K : Type 0} (st : StoreMeaning S) (ho : HostMeaning H) (or : OrderMeaning O K) (b : Book) (s : S) (h : H) (o : O) where
  -- with the calls and the answers as the code has them
  pub stands_as : (r : Run S H O K st ho or) (cs ds : List Call) (xs ys : List Answer) → ds ≡ cs → ys ≡ xs → Stands st ho or b s h o cs r xs → Stands st ho or b s h o ds r ys
  stands_as r cs ds xs ys e f u = subst (λ es. Stands st ho or b s h o es r ys) (sym e) (subst (Stands st ho or b s h o cs r) (sym f) u)

  -- one call more
  pub stands_more : (r : Run S H O K st ho or) (cs ds : List Call) (xs ys : List Answer) (c : Call) (q : Run S H O K st ho or) (a : Answer) → ds ≡ cs ++ c ∷ [] → ys ≡ xs ++ a ∷ []
      → Stands st ho or b s h o cs r xs → Does st ho or r c q a → Stands st ho or b s h o ds q ys
  stands_more r cs ds xs ys c q a e f u d = stands_as q (cs ++ c ∷ []) ds (xs ++ a ∷ []) ys e f (d.carries b s h o cs xs u)
