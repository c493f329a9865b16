-- In which states a record may follow, and the state then: one lemma for each kind of record.
use Rattle.std.proofs.Common.{◌≡◌, Some, subst}
use Rattle.std.proofs.lemmas.Option.{same_Some}
use Rattle.records.specs.declared.kinds.RecordKind.TheVariants as kind
use Rattle.book.specs.declared.draft.State.{State}
use Rattle.book.specs.declared.draft.State.TheVariants as state
use Rattle.book.specs.Drafts.{follows}

module _ (P : State → State → Type 0) (t : State) where
  pub fact_kind_follows : (s : State) → follows s kind.FactKind ≡ Some t → P state.Between state.Between → P s t
  fact_kind_follows state.Between e a = subst (P state.Between) (same_Some _ _ e) a
  fact_kind_follows state.Begun e a = absurd cc
  fact_kind_follows state.Heads e a = absurd cc
  fact_kind_follows state.Guards e a = absurd cc
  fact_kind_follows state.Facts e a = absurd cc
  fact_kind_follows state.Failing e a = absurd cc

  pub begin_follows : (s : State) → follows s kind.RuleBegins ≡ Some t → P state.Between state.Begun → P s t
  begin_follows state.Between e a = subst (P state.Between) (same_Some _ _ e) a
  begin_follows state.Begun e a = absurd cc
  begin_follows state.Heads e a = absurd cc
  begin_follows state.Guards e a = absurd cc
  begin_follows state.Facts e a = absurd cc
  begin_follows state.Failing e a = absurd cc

  pub head_follows : (s : State) → follows s kind.Head ≡ Some t → P state.Begun state.Heads → P state.Heads state.Heads → P s t
  head_follows state.Between e a b = absurd cc
  head_follows state.Begun e a b = subst (P state.Begun) (same_Some _ _ e) a
  head_follows state.Heads e a b = subst (P state.Heads) (same_Some _ _ e) b
  head_follows state.Guards e a b = absurd cc
  head_follows state.Facts e a b = absurd cc
  head_follows state.Failing e a b = absurd cc

  pub guard_follows : (s : State) → follows s kind.Guard ≡ Some t → P state.Heads state.Guards → P state.Guards state.Guards → P s t
  guard_follows state.Between e a b = absurd cc
  guard_follows state.Begun e a b = absurd cc
  guard_follows state.Heads e a b = subst (P state.Heads) (same_Some _ _ e) a
  guard_follows state.Guards e a b = subst (P state.Guards) (same_Some _ _ e) b
  guard_follows state.Facts e a b = absurd cc
  guard_follows state.Failing e a b = absurd cc

  pub body_follows : (s : State) → follows s kind.BodyFact ≡ Some t → P state.Heads state.Facts → P state.Guards state.Facts → P state.Facts state.Facts → P s t
  body_follows state.Between e a b c = absurd cc
  body_follows state.Begun e a b c = absurd cc
  body_follows state.Heads e a b c = subst (P state.Heads) (same_Some _ _ e) a
  body_follows state.Guards e a b c = subst (P state.Guards) (same_Some _ _ e) b
  body_follows state.Facts e a b c = subst (P state.Facts) (same_Some _ _ e) c
  body_follows state.Failing e a b c = absurd cc

  pub fail_follows : (s : State) → follows s kind.Fail ≡ Some t → P state.Heads state.Failing → P state.Guards state.Failing → P s t
  fail_follows state.Between e a b = absurd cc
  fail_follows state.Begun e a b = absurd cc
  fail_follows state.Heads e a b = subst (P state.Heads) (same_Some _ _ e) a
  fail_follows state.Guards e a b = subst (P state.Guards) (same_Some _ _ e) b
  fail_follows state.Facts e a b = absurd cc
  fail_follows state.Failing e a b = absurd cc

  pub end_follows : (s : State) → follows s kind.RuleEnds ≡ Some t → P state.Heads state.Between → P state.Guards state.Between → P state.Facts state.Between → P state.Failing state.Between → P s t
  end_follows state.Between e a b c d = absurd cc
  end_follows state.Begun e a b c d = absurd cc
  end_follows state.Heads e a b c d = subst (P state.Heads) (same_Some _ _ e) a
  end_follows state.Guards e a b c d = subst (P state.Guards) (same_Some _ _ e) b
  end_follows state.Facts e a b c d = subst (P state.Facts) (same_Some _ _ e) c
  end_follows state.Failing e a b c d = subst (P state.Failing) (same_Some _ _ e) d

  pub goal_follows : (s : State) → follows s kind.GoalFact ≡ Some t → P s t
  goal_follows state.Between e = absurd cc
  goal_follows state.Begun e = absurd cc
  goal_follows state.Heads e = absurd cc
  goal_follows state.Guards e = absurd cc
  goal_follows state.Facts e = absurd cc
  goal_follows state.Failing e = absurd cc
