-- What the tables mean after the open rule was lent and changed.
use Rattle.std.proofs.Common.{◌≡◌, ◌-◌, ◌<◌, ◌≤◌, true, false, ltb, map, length, get_or, set, Ok, Err, vec_items, vec_len, vec_capacity, Result, sym, refl, ap, ◌∙◌, arith}
use mathlib.Core.Option.{Option}
use native.Mathlib.Bridge.{le_prop}
use base.Fml.{GName}
use borrow.Follows.Closed.{read_of}
use lib.ListN.{length-map}
use Rattle.std.proofs.lemmas.List.{map-set, get_or-map, set-get_or}
use Rattle.std.proofs.lemmas.Bool.{ltb-true}
use Rattle.std.specs.Vec.{with_item}
use Rattle.records.specs.declared.fault.Fault.{Fault}
use Rattle.records.specs.declared.fault.Fault.TheVariants as fault
use Rattle.book.specs.declared.draft.Tables.{Tables as TablesData}
use Rattle.rules.specs.declared.Rule.{Rule as RuleData}
use Rattle.rules.specs.Rules.{Rule, rule_of, blank_rule}
use Rattle.rules.specs.Results.{and_then, told, kept_or, unless}
use Rattle.book.specs.Drafts.{Tables, open_rule, opened}
use Rattle.book.specs.Held.{tables_of, with_last}

module _ (t : TablesData) where
  as_many : length (map rule_of (vec_items t.rules)) ≡ vec_len t.rules
  as_many = length-map (vec_items t.rules) rule_of ∙ sym t.rules.ok.0

  -- there is no rule
  pub opened_none : (f : Rule → Result Rule Fault) → false ≡ ltb 0 (vec_len t.rules) → opened (tables_of t) f ≡ Err fault.MayNotFollow
  opened_none f e = ap (λ b. and_then (unless b fault.MayNotFollow) (λ _. and_then (f (open_rule (tables_of t).rules)) (λ q. Ok (put q)))) (ap (ltb 0) as_many ∙ sym e)
    where
      put : Rule → Tables
      put q = record { kinds = t.kinds.arities; rules = set (tables_of t).rules (length (tables_of t).rules - 1) q }

  module _ (r : RuleData) (e : true ≡ ltb 0 (vec_len t.rules)) (last : r ≡ get_or (vec_items t.rules) (vec_len t.rules - 1) r) where
    -- the tables with q for the open rule
    abbrev put : Rule → Tables
    put q = record { kinds = t.kinds.arities; rules = set (tables_of t).rules (length (tables_of t).rules - 1) q }

    open_is : open_rule (tables_of t).rules ≡ rule_of r
    open_is =
        let n : vec_len t.rules ≡ length (vec_items t.rules) = t.rules.ok.0 in
        let p : 0 < vec_len t.rules = ltb-true 0 _ (sym e) in
        let h : vec_len t.rules - 1 < length (vec_items t.rules) = omega arith in
        ap (λ k. get_or (tables_of t).rules (k - 1) blank_rule) as_many
        ∙ get_or-map rule_of (vec_items t.rules) (vec_len t.rules - 1) r blank_rule h
        ∙ ap rule_of (sym last)

    opened_is : (f : Rule → Result Rule Fault) → opened (tables_of t) f ≡ and_then (f (rule_of r)) (λ q. Ok (put q))
    opened_is f =
        ap (λ b. and_then (unless b fault.MayNotFollow) (λ _. and_then (f (open_rule (tables_of t).rules)) (λ q. Ok (put q)))) (ap (ltb 0) as_many ∙ sym e)
        ∙ ap (λ o. and_then (f o) (λ q. Ok (put q))) open_is

    -- the rule w in the last place is the model of w put there
    put_is : (w : RuleData) → tables_of (with_last t w) ≡ put (rule_of w)
    put_is w = ap (λ rs. record { kinds = t.kinds.arities; rules = rs })
        (map-set rule_of (vec_items t.rules) (vec_len t.rules - 1) w
        ∙ ap (λ k. set (tables_of t).rules (k - 1) (rule_of w)) (sym as_many))

    put_same : put (rule_of r) ≡ tables_of t
    put_same = ap put (sym open_is) ∙ ap (λ rs. record { kinds = t.kinds.arities; rules = rs }) (set-get_or (tables_of t).rules (length (tables_of t).rules - 1) blank_rule)

    pub opened_told : (f : Rule → Result Rule Fault) → told (f (rule_of r)) ≡ told (opened (tables_of t) f)
    opened_told f = go (f (rule_of r)) ∙ ap told (sym (opened_is f))
      where
        go : (x : Result Rule Fault) → told x ≡ told (and_then x (λ q. Ok (put q)))
        go (Ok q) = refl
        go (Err f) = refl

    pub opened_after : (f : Rule → Result Rule Fault) (w : RuleData) → rule_of w ≡ kept_or (f (rule_of r)) (rule_of r)
        → tables_of (with_last t w) ≡ kept_or (opened (tables_of t) f) (tables_of t)
    opened_after f w k = put_is w ∙ go (f (rule_of r)) k ∙ ap (λ x. kept_or x (tables_of t)) (sym (opened_is f))
      where
        go : (x : Result Rule Fault) → rule_of w ≡ kept_or x (rule_of r) → put (rule_of w) ≡ kept_or (and_then x (λ q. Ok (put q))) (tables_of t)
        go (Ok q) k = ap put k
        go (Err f) k = ap put k ∙ put_same

-- what the tables lend does not depend on how their bounds were shown
pub lent_same : (m : Option GName) (t : TablesData) (few : (w : RuleData) → vec_len t.rules ≤ 64) (room : (w : RuleData) → 64 ≤ vec_capacity t.rules)
    (few₀ : vec_len t.rules ≤ 64) (room₀ : 64 ≤ vec_capacity t.rules)
    → read_of m (λ w. record { kinds = t.kinds; rules = with_item t.rules (vec_len t.rules - 1) w; few = few w; room = room w }) (record { kinds = t.kinds; rules = t.rules; few = few₀; room = room₀ })
    ≡ read_of m (with_last t) t
lent_same m t few room few₀ room₀ = λ i. read_of m
    (λ w. record { kinds = t.kinds; rules = with_item t.rules (vec_len t.rules - 1) w; few = le_prop (few w) t.few i; room = le_prop (room w) t.room i })
    (record { kinds = t.kinds; rules = t.rules; few = le_prop few₀ t.few i; room = le_prop room₀ t.room i })
