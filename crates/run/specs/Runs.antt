-- A run by its setup and its state, and what its calls do. Assumes nothing.
-- st, ho and or are what store, host and order mean; b, s, h and o are a book, a store, a host and an
-- order that a run was opened on.
--     setting_on st ho or b s h o   what never changes, of these: book, rows, the host's answers, the
--                              order's ranks
--     setup st ho or r         the same of the run r
--     state st r               what the calls change: live facts, roll, next id, whether failed
--     Standing st r            its store is sound, and every live id is below the next one: true from
--                              the opening on
--     Stands st ho or b s h o cs r xs   since its opening on these the calls cs were made on the run r
--                              and answered xs: all that is promised of them
--     Does st ho or r c q a    the call c on the run r leaves the run q and answers a, as the tally says,
--                              and carries on whatever was promised of the calls before
--     Holds st ho or c         the chosen run c holds what look would answer
use Rattle.std.specs.Prelude.{◌≡◌, List, [], ◌∷◌, ◌++◌, vec_items}
use Rattle.host.specs.declared.host.Host.{Ghosts as HostMeaning}
use Rattle.order.specs.declared.order.Order.{Ghosts as OrderMeaning}
use Rattle.store.specs.declared.Store.{Ghosts as StoreMeaning}
use Rattle.store.specs.Store.{Above}
use Rattle.book.specs.Books.{Book, book_of}
use Rattle.meaning.specs.Setup.{Setup, State}
use Rattle.meaning.specs.Calls.{look_answer}
use Rattle.tally.specs.Account.{Kept, Performs}
use Rattle.tally.specs.Derivation.{Derivation}
use Rattle.tally.specs.declared.answers.Answer.{Answer}
use Rattle.tally.specs.declared.calls.Call.{Call}
use Rattle.run.specs.declared.chosen.Chosen.{Chosen}
use Rattle.run.specs.declared.run.Run.{Run}

module _ {S H O K : Type 0} (st : StoreMeaning S) (ho : HostMeaning H) (or : OrderMeaning O K) where
  abbrev pub setting_on : Book → S → H → O → Setup K
  setting_on b s h o = record {
    kinds = b.kinds;
    rules = b.rules;
    rows = st.rows s;
    value = ho.value h;
    says = ho.says h;
    works = ho.works h;
    rank = or.rank o;
    better = or.better o;
  }

  abbrev pub setup : Run S H O K st ho or → Setup K
  setup r = setting_on (book_of r.book) r.store r.host r.order

module _ {S H O K : Type 0} (st : StoreMeaning S) {ho : HostMeaning H} {or : OrderMeaning O K} where
  abbrev pub state : Run S H O K st ho or → State
  state r = record { facts = st.live r.store; roll = vec_items r.roll; next = r.next; failed = r.failed }

  pub record Standing (r : Run S H O K st ho or) : Type 0 where
    pub kept : st.sound r.store
    pub below : Above r.next (st.live r.store)

module _ {S H O K : Type 0} (st : StoreMeaning S) (ho : HostMeaning H) (or : OrderMeaning O K) where
  pub record Stands (b : Book) (s : S) (h : H) (o : O) (cs : List Call) (r : Run S H O K st ho or) (xs : List Answer) : Type 0 where
    pub same : setup st ho or r ≡ setting_on st ho or b s h o
    pub standing : Standing st r
    pub kept : Kept (setting_on st ho or b s h o) cs (state st r) xs
    pub derived : Derivation (setting_on st ho or b s h o) (state st r)

  pub record Does (r : Run S H O K st ho or) (c : Call) (q : Run S H O K st ho or) (a : Answer) : Type 0 where
    pub same : setup st ho or q ≡ setup st ho or r
    pub standing : Standing st r → Standing st q
    pub performs : Standing st r → Performs (setup st ho or r) (state st r) c (state st q) a
    pub carries : (b : Book) (s : S) (h : H) (o : O) (cs : List Call) (xs : List Answer)
        → Stands b s h o cs r xs → Stands b s h o (cs ++ c ∷ []) q (xs ++ a ∷ [])

  abbrev pub Holds : Chosen S H O K st ho or → Type 0
  Holds c = c.held ≡ look_answer (setup st ho or c.run) (state st c.run)
