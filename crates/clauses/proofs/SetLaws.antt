-- A leaf that is not of listed states holds a state just where that state meets each of the leaf's clauses; asked about the state after
-- the action, just where the state before it meets each clause pulled through the action.
-- Assumes nothing.
use mathlib.Core.Path.{◌≡◌, refl, sym, subst, ◌∙◌}
use mathlib.Core.Logic.{◌↔◌, inl, inr}
use Prim.Native.Nat.{ℕ, ◌-◌, ◌^◌, ◌<◌}
use native.Mathlib.Omega.{arith}
use native.Mathlib.Decide.{dec_lt}
use mathlib.Core.Bool.{Bool, true, false, not}
use mathlib.Core.List.{List}
use lib.Bits.{bit_or, or_lt}
use lib.Dec.{T}
use Rattle.task.specs.declared.Action.{Action}
use Rattle.task.specs.declared.Ends.{Ends}
use Rattle.task.specs.Facts.{without}
use Rattle.task.specs.Inner.{bit}
use Rattle.task.proofs.Tests.{excluded, never, not_of}
use Rattle.task.proofs.Bits.{bit_le, bit_none, bit_high, bit_not, bit_or_lem, bit_without, AsTold}
use Rattle.task.proofs.Names.{at_init_facts, at_init_of, at_goal_facts, at_goal_of}
use Rattle.meaning.specs.declared.Clause.{Clause}
use Rattle.meaning.specs.Sets.{meets, some_below}
use Rattle.meaning.proofs.Below.{all_at, all_of, some_at, some_of}
use Rattle.counterexample.specs.Counter.{seen}
use Rattle.certificate.specs.declared.BasicEntry.{BasicEntry}
use Rattle.certificate.specs.declared.BasicEntry.TheVariants.{Empty, Init, Goal, Explicit, Horn, TwoCnf}
use Rattle.leaves.specs.declared.Leaf.{Leaf}
use Rattle.leaves.specs.Holds.{meets_all, set_holds}
use Rattle.leaves.specs.Lists.{leaf_holds}
use Rattle.propagation.specs.Clauses.{fact_clause, clause_count, words_of, own_clause, clause_of, acting, effect_of, pulled_by}
use Rattle.propagation.specs.Clauses.{OfLeaf, UnlistedSet, Unlisted}
use Rattle.propagation.specs.Propagation.{value, Meets, Fails}
use Rattle.propagation.proofs.OneFact.{bit_left, only_left}
use Rattle.propagation.proofs.ClauseLaws.{Has, by_met, met_by_lem, over_seen}

-- ---- clauses of one fact

-- what follows where a positive fact of the clause is on, and where a negative one is off, follows where it is met
met_cases : (P : Type 0) (s : ℕ) (c : Clause) → T (meets s c) → ((f : ℕ) → bit f c.positive ≡ 1 → bit f s ≡ 1 → P)
    → ((f : ℕ) → bit f c.negative ≡ 1 → bit f s ≡ 0 → P) → P
met_cases P s c t p n = let w = met_by_lem s c t in go w.0 w.1 w.2 w.3
  where
    go : (b : Bool) (f : ℕ) → Has c b f → bit f s ≡ value b → P
    go true f h v = p f h v
    go false f h v = n f h v

none_met : (s : ℕ) → T (meets s (record { positive = 0; negative = 0 })) → ⊥
none_met s t = met_cases ⊥ s _ t (λ f u v. omega (arith, bit_none f)) (λ f u v. omega (arith, bit_none f))

fact_met : (on off s i : ℕ) → T (meets s (fact_clause on off i)) ↔ AsTold on off s i
unfolding fact_clause
fact_met on off s i = (
  (λ t. met_cases (AsTold on off s i) s (fact_clause on off i) t
      (λ f u v. let w = only_left f i off u in subst (AsTold on off s) w.0 (omega (arith, bit_le f on), omega (arith, w.1)))
      (λ f u v. let w = only_left f i on u in subst (AsTold on off s) w.0 (omega (arith, w.1), omega (arith, bit_le f off)))),
  (λ h. elim (dec_lt (bit i s) 1) [
    | yes l ↦ by_met s (fact_clause on off i) false i (bit_left i on (omega (arith, h.0))) (omega arith)
    | no l ↦ by_met s (fact_clause on off i) true i (bit_left i off (omega (arith, h.1))) (omega (arith, bit_le i s))
  ]),
)

-- ---- the clauses of a set

-- the masks of the task's ends are words
abbrev pub InWords : Ends → Type 0
InWords ends = (ends.init < 2 ^ 64) × (ends.unknown < 2 ^ 64) × (ends.goal < 2 ^ 64) × (ends.off < 2 ^ 64)

module _ (bytes : List ℕ) (ends : Ends) (words : InWords ends) where
  -- the clause of a fact in the initial states: it is as in the start, unless it is unknown
  init_met : (s i : ℕ) → i < 64 → T (meets s (own_clause ends Init i)) ↔ (bit i ends.unknown ≡ 0 → bit i s ≡ bit i ends.init)
  unfolding own_clause
  init_met s i l =
      let either = bit_or ends.init ends.unknown in
      let m = fact_met (without ends.init ends.unknown) (2 ^ 64 - 1 - either) s i in
      let on = bit_without i ends.init ends.unknown in
      let off = bit_not 64 i either (or_lt 64 _ _ words.0 words.1) l in
      let or = bit_or_lem i ends.init ends.unknown in
      let le = bit_le i s in (
        (λ t z. let h = m.0 t in omega (arith, bit_le i ends.init)),
        (λ h. m.1 (elim (dec_lt (bit i ends.unknown) 1) [
          | yes k ↦ let e : bit i s ≡ bit i ends.init = h (omega arith) in (omega arith, omega arith)
          | no k ↦ (omega arith, omega arith)
        ])),
      )

  set_meets : (x : BasicEntry) → UnlistedSet x → (s : ℕ) → s < 2 ^ 64
      → T (set_holds bytes ends x s) ↔ ((i : ℕ) → i < clause_count x → T (meets s (clause_of bytes ends x i)))
  unfolding set_holds meets_all clause_count clause_of words_of own_clause
  set_meets Empty u s low = ((λ e. absurd e), (λ e. none_met s (e 0 (omega arith))))
  set_meets Init u s low = (
    (λ e i l. (init_met s i l).1 (at_init_facts ends s e i)),
    (λ e. at_init_of ends s (λ i z. elim (dec_lt i 64) [
      | yes l ↦ (init_met s i l).0 (e i l) z
      | no l ↦ bit_high 64 i s low (omega arith) ∙ sym (bit_high 64 i ends.init words.0 (omega arith))
    ])),
  )
  set_meets Goal u s low = (
    (λ e i l. (fact_met ends.goal ends.off s i).1 (at_goal_facts ends s e i)),
    (λ e. at_goal_of ends s (λ i. elim (dec_lt i 64) [
      | yes l ↦ (fact_met ends.goal ends.off s i).0 (e i l)
      | no l ↦ (
        omega (arith, bit_high 64 i ends.goal words.2 (omega arith)),
        omega (arith, bit_high 64 i ends.off words.3 (omega arith), bit_le i s),
      )
    ])),
  )
  set_meets (Explicit x) u s low = absurd u
  set_meets (Horn x) u s low = (all_at x.count _, all_of x.count _)
  set_meets (TwoCnf x) u s low = (all_at x.count _, all_of x.count _)

-- ---- the clauses of a leaf

-- where a test does not pass at each number below k, it fails at one of them
one_fails : (k : ℕ) (t : ℕ → Bool) → (((i : ℕ) → i < k → T (t i)) → ⊥) → (i : ℕ) × (i < k) × T (not (t i))
one_fails k t h =
    elim (excluded (some_below k (λ i. not (t i)))) [
      | inl e ↦ some_at k (λ i. not (t i)) e
      | inr n ↦ absurd (h (λ i l. elim (excluded (t i)) [
        | inl e ↦ e
        | inr e ↦ absurd (never (some_below k (λ i. not (t i))) (some_of k (λ i. not (t i)) i l e) n)
      ]))
    ]

module _ (bytes : List ℕ) (ends : Ends) (words : InWords ends) (a : Action) (x : Leaf) (u : Unlisted x)
    (s : ℕ) (low : seen x.after a s < 2 ^ 64) where
  -- clause i, over the state before the action
  abbrev clause : ℕ → Clause
  clause i = pulled_by (effect_of (acting a x.after)) (clause_of bytes ends x.set i)

  by_clauses : T (leaf_holds bytes ends a s x) ↔ ((i : ℕ) → i < clause_count x.set → T (meets s (clause i)))
  unfolding leaf_holds
  by_clauses =
      let m = set_meets bytes ends words x.set u (seen x.after a s) low in (
        (λ t i q. subst T (sym (over_seen a x.after s _)) (m.0 t i q)),
        (λ t. m.1 (λ i q. subst T (over_seen a x.after s _) (t i q))),
      )

  -- it holds where each clause is met
  pub leaf_meets : T (leaf_holds bytes ends a s x) ↔ Meets (OfLeaf bytes ends a x) s
  leaf_meets = (
    (λ t c o. subst (λ (d : Clause). T (meets s d)) (sym o.2) (by_clauses.0 t o.0 o.1)),
    (λ t. by_clauses.1 (λ i q. t (clause i) (i, q, refl))),
  )

  -- it does not where one is failed
  pub leaf_fails : T (not (leaf_holds bytes ends a s x)) ↔ Fails (OfLeaf bytes ends a x) s
  leaf_fails = (
    (λ t.
        let w = one_fails (clause_count x.set) (λ i. meets s (clause i)) (λ e. never (leaf_holds bytes ends a s x) (by_clauses.1 e) t) in
        (clause w.0, (w.0, w.1, refl), w.2)),
    (λ w. not_of (leaf_holds bytes ends a s x) (λ t. never (meets s w.0) (leaf_meets.0 t w.0 w.1) w.2)),
  )
