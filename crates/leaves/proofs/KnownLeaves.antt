-- The entries of a checked file as leaves' sets: they hold what the entries hold, are in order, and keep the format's limits.
-- Assumes nothing.
use mathlib.Core.Path.{◌≡◌, refl, sym, ap, ap₂, subst, ◌∙◌}
use mathlib.Core.Logic.{inl, inr}
use Prim.Native.Nat.{ℕ, suc, ◌+◌, ◌*◌, ◌^◌, ◌≤◌, ◌<◌}
use native.Mathlib.Omega.{arith}
use native.Mathlib.Decide.{dec_lt}
use mathlib.Core.Bool.{Bool, true, false}
use mathlib.Core.List.{List, [], ◌∷◌}
use lib.ListN.{length, get_or, get_or-eq_default}
use lib.Dec.{T}
use Rattle.task.specs.Task.{Task}
use Rattle.task.specs.Inner.{ends_of}
use Rattle.task.specs.Reach.{member, every}
use Rattle.task.proofs.Tests.{both_ways, member_none, member_cases}
use Rattle.task.proofs.Names.{init_ends, goal_ends}
use Rattle.meaning.specs.declared.Clause.{Clause}
use Rattle.meaning.specs.File.{File, state_set_at, state_kind, basic_kind, Basic, empty, init, goal, explicit}
use Rattle.meaning.specs.File.{horn, two_cnf, StateSet, basic}
use Rattle.meaning.specs.Sets.{all_below, meets, in_basic, in_set}
use Rattle.meaning.specs.Shapes.{kind_at}
use Rattle.meaning.specs.Writing.{AllFrom, FitsClauses, FitsBasic, FitsStateSet}
use Rattle.meaning.proofs.Below.{all_at, all_of}
use Rattle.meaning.proofs.Order as order
use Rattle.file_numbers.specs.Numbers.{number_at, clause_at}
use Rattle.file_numbers.specs.ClauseRule.{clause_rule}
use Rattle.words.specs.Words.{words_at}
use Rattle.certificate.specs.declared.BasicEntry.{BasicEntry}
use Rattle.certificate.specs.declared.BasicEntry.TheVariants.{Empty, Init, Goal, Explicit, Horn, TwoCnf}
use Rattle.certificate.specs.Views.{span, view_of, view_of_basic}
use Rattle.certificate.specs.declared.StateEntry.{StateEntry}
use Rattle.certificate.specs.Index.{state_place}
use Rattle.certificate.specs.Rows.{listed_by, states_of, InOrder}
use Rattle.certificate.specs.Known.{Known, decoded}
use Rattle.certificate.proofs.ItemLaws.{Items}
use Rattle.certificate.proofs.EntryLaws.{BasicItems, StateItems}
use Rattle.certificate.proofs.RowLaws.{none_in_order}
use Rattle.certificate.proofs.KnownLaws.{read_file_lem, read_short, read_ordered, known_state_set}
use Rattle.counterexample.proofs.Lists.{every_index}
use Rattle.counterexample.proofs.LeafLaws.{in_basic_lem}
use Rattle.leaves.specs.Leaves.{kind_of, basic_in, set_of}
use Rattle.leaves.specs.Holds.{states_at, meets_all, set_holds, Orderly, Ruled}

-- ---- items

module _ (bytes : List ℕ) where
  -- listed states
  states_stand : (p : ℕ) (xs : List ℕ) → Items bytes 8 (number_at 8 bytes) p xs → states_at bytes p (length xs) ≡ xs
  unfolding states_at
  states_stand p [] h = refl
  states_stand p (x ∷ xs) h =
      ap₂ (λ (y : ℕ) (ys : List ℕ). y ∷ ys) (ap (number_at 8 bytes) (omega arith) ∙ h.here 0 0 (omega arith))
      (states_stand (p + 8) xs (record {
        inside = let i = h.inside in omega arith;
        here = λ d i l.
            let e : p + 8 + 8 * i ≡ p + 8 * suc i = omega arith in
            ap (number_at 8 bytes) e ∙ h.here d (suc i) (omega arith);
      }))

  module _ (p : ℕ) (cs : List Clause) (h : Items bytes 16 (clause_at bytes) p cs) where
    clause_stands : (d : Clause) (i : ℕ) → i < length cs → words_at bytes p i ≡ get_or cs i d
    unfolding words_at
    clause_stands d i l = h.here d i l

    -- a state meets each of them
    clauses_met : (s : ℕ) → all_below (length cs) (λ i. meets s (words_at bytes p i)) ≡ every (meets s) cs
    clauses_met s =
        let d : Clause = record { positive = 0; negative = 0 } in
        let M : Clause → Type 0 = λ c. T (meets s c) in
        both_ways _ _
        (λ t. (every_index (meets s) d cs).1 (λ i l. subst M (clause_stands d i l) (all_at (length cs) _ t i l)))
        (λ t. all_of (length cs) _ (λ i l. subst M (sym (clause_stands d i l)) ((every_index (meets s) d cs).0 t i l)))

    -- each keeps its kind's rule
    clauses_ruled : (n : ℕ) (two : Bool) → FitsClauses n (clause_rule two) cs → Ruled bytes two (record { at = p; count = length cs })
    clauses_ruled n two z = record {
      inside = h.inside;
      shape = λ i l.
          let d : Clause = record { positive = 0; negative = 0 } in
          subst (λ (c : Clause). T (clause_rule two c.positive c.negative)) (sym (clause_stands d i l))
          (order.all_at (λ _ c. (c.positive < 2 ^ n) × (c.negative < 2 ^ n) × T (clause_rule two c.positive c.negative)) d 0 cs
          z.1 i l).2;
    }

-- ---- one basic set

all_member : (P : ℕ → Type 0) (i : ℕ) (xs : List ℕ) → AllFrom (λ _. P) i xs → (x : ℕ) → T (member x xs) → P x
all_member P i [] h x m = absurd (member_none x m)
all_member P i (y ∷ ys) h x m =
    elim (member_cases x y ys m) [ inl e ↦ subst P (sym e) h.0 | inr r ↦ all_member P (suc i) ys h.1 x r ]

-- within the limits of a task: listed states are in order and states of n facts; clauses keep their kind's rule
abbrev pub WithinLimits : List ℕ → List ℕ → ℕ → BasicEntry → Type 0
WithinLimits bytes index n Empty = Unit {0}
WithinLimits bytes index n Init = Unit {0}
WithinLimits bytes index n Goal = Unit {0}
WithinLimits bytes index n (Explicit x) =
    InOrder bytes index x × ((s : ℕ) → T (member s (states_at bytes x.at x.count)) → s < 2 ^ n)
WithinLimits bytes index n (Horn x) = Ruled bytes false x
WithinLimits bytes index n (TwoCnf x) = Ruled bytes true x

pub limits_orderly : (bytes index : List ℕ) (n : ℕ) (x : BasicEntry) → WithinLimits bytes index n x → Orderly bytes index x
limits_orderly bytes index n Empty h = tt
limits_orderly bytes index n Init h = tt
limits_orderly bytes index n Goal h = tt
limits_orderly bytes index n (Explicit x) h = h.0
limits_orderly bytes index n (Horn x) h = h.inside
limits_orderly bytes index n (TwoCnf x) h = h.inside

-- a leaf's set that stands for a basic set of a task
record StandsFor (bytes index : List ℕ) (t : Task) (b : Basic) (x : BasicEntry) : Type 0 where
  kind : kind_of x ≡ basic_kind b
  holds : (s : ℕ) → set_holds bytes (ends_of t) x s ≡ in_basic t b s
  limits : WithinLimits bytes index t.facts x

module _ (bytes index : List ℕ) (t : Task) (p : ℕ) where
  stands_for_lem : (b : Basic) → BasicItems bytes p b → InOrder bytes index (listed_by (view_of_basic p b)) → FitsBasic t.facts b
      → StandsFor bytes index t b (view_of_basic p b)
  unfolding kind_of basic_kind set_holds meets_all listed_by view_of_basic span in_basic clause_rule
  stands_for_lem empty h o z = record { kind = refl; holds = λ s. refl; limits = tt }
  stands_for_lem init h o z = record { kind = refl; holds = λ s. sym (init_ends t s); limits = tt }
  stands_for_lem goal h o z = record { kind = refl; holds = λ s. sym (goal_ends t s); limits = tt }
  stands_for_lem (explicit ss) h o z =
      let e = states_stand bytes (p + 3) ss h in
      record {
        kind = refl;
        holds = λ s. ap (member s) e;
        limits = (o, λ s m. all_member (λ x. x < 2 ^ t.facts) 0 ss z.1 s (subst (λ (ys : List ℕ). T (member s ys)) e m));
      }
  stands_for_lem (horn cs) h o z =
      record { kind = refl; holds = clauses_met bytes (p + 3) cs h; limits = clauses_ruled bytes (p + 3) cs h t.facts false z }
  stands_for_lem (two_cnf cs) h o z =
      record { kind = refl; holds = clauses_met bytes (p + 3) cs h; limits = clauses_ruled bytes (p + 3) cs h t.facts true z }

-- ---- entries of a checked file

module _ (bytes : List ℕ) (index : List ℕ) (k : Known bytes index) where
  abbrev f : File
  f = decoded bytes

  -- the items of the entry with any number
  pub known_items : (e : ℕ) → StateItems bytes (state_place index e) (state_set_at (decoded bytes) e)
  unfolding state_set_at
  known_items e =
      elim (dec_lt e (length f.state_sets)) [
        | yes l ↦ (known_state_set bytes index k e l).items
        | no l ↦
            let past : length f.state_sets ≤ e = omega arith in
            subst (StateItems bytes (state_place index e)) (sym (get_or-eq_default f.state_sets (basic empty) past)) tt
      ]

  -- the states that it lists are in order
  known_order : (e : ℕ) → InOrder bytes index (states_of (view_of (state_place index e) (state_set_at (decoded bytes) e)))
  unfolding state_set_at view_of view_of_basic states_of listed_by
  known_order e =
      elim (dec_lt e (length f.state_sets)) [
        | yes l ↦ subst (λ (x : StateEntry). InOrder bytes index (states_of x)) (known_state_set bytes index k e l).view (k.ordered e l)
        | no l ↦
            let past : length f.state_sets ≤ e = omega arith in
            subst (λ (x : StateSet). InOrder bytes index (states_of (view_of (state_place index e) x)))
            (sym (get_or-eq_default f.state_sets (basic empty) past)) (none_in_order bytes index (read_short bytes k.read))
      ]

  -- a basic entry's set holds what the entry does, is of its kind and keeps the format's limits
  module _ (e : ℕ) (b : Basic) (q : state_set_at (decoded bytes) e ≡ basic b) where
    as_basic : StandsFor bytes index f.task b (set_of index f e)
    unfolding set_of basic_in view_of states_of
    as_basic =
        subst (λ (x : StateSet). StandsFor bytes index f.task b (basic_in (view_of (state_place index e) x))) (sym q)
        (stands_for_lem bytes index f.task (state_place index e) b (subst (StateItems bytes (state_place index e)) q (known_items e))
        (subst (λ (x : StateSet). InOrder bytes index (states_of (view_of (state_place index e) x))) q (known_order e))
        (subst (FitsStateSet f.task.facts (length f.action_sets) e) q (order.state_set_fits bytes f (read_file_lem bytes k.read) e)))

    pub known_holds : (s : ℕ) → set_holds bytes (ends_of (decoded bytes).task) (set_of index (decoded bytes) e) s ≡ in_set (decoded bytes) e s
    known_holds s = as_basic.holds s ∙ sym (ap (λ (X : ℕ → Bool). X s) (in_basic_lem f (read_ordered bytes k.read) e b q))

    pub known_kind : kind_of (set_of index (decoded bytes) e) ≡ kind_at (decoded bytes) e
    unfolding kind_at state_kind
    known_kind = as_basic.kind ∙ sym (ap state_kind q)

    pub known_limits : WithinLimits bytes index (decoded bytes).task.facts (set_of index (decoded bytes) e)
    known_limits = as_basic.limits
