-- Books. Assumes nothing.
--     Book           kinds and rules, all of them closed
--     book_of b      the book that the data b holds
--     closing d      the book that the draft d closes into
use Rattle.std.specs.Prelude.{ℕ, List, map, vec_items, Option}
use Rattle.book.specs.declared.book.Book.{Book as BookData}
use Rattle.rules.specs.Rules.{Rule, rule_of}
use Rattle.book.specs.Drafts.{Draft, finished}

pub record Book : Type 0 where
  pub kinds : List (Option ℕ)
  pub rules : List Rule

abbrev pub book_of : BookData → Book
book_of b = record {
  kinds = b.kinds.arities;
  rules = map rule_of (vec_items b.rules);
}

abbrev pub closing : Draft → Book
closing d = record { kinds = d.tables.kinds; rules = finished d }
