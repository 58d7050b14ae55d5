-- Where the search starts: the facts that an action needs on are on, those that it needs off and those above the task's are off. And what
-- it then tells.
-- Assumes nothing.
use Prim.Native.Nat.{ℕ, ◌+◌, ◌-◌, ◌≤◌, ◌<◌, ◌^◌}
use mathlib.Core.Path.{◌≡◌, sym, ap, subst, ◌∙◌}
use mathlib.Core.Bool.{Bool, true, false, not, true≢false}
use mathlib.Core.List.{List}
use native.Mathlib.Omega.{arith}
use native.Mathlib.Decide.{dec_lt}
use lib.ListN.{length}
use lib.Pow.{pow_mono, pow_pos}
use lib.Bits.{bit_and, bit_or, mask_lt}
use lib.Dec.{T}
use Rattle.task.specs.declared.Action.{Action}
use Rattle.task.specs.Task.{applies}
use Rattle.task.specs.Inner.{bit}
use Rattle.task.proofs.Tests.{not_of}
use Rattle.task.proofs.Bits.{bit_le, bit_none, bit_high, bit_not, bit_and_lem, bit_or_lem, same_bits, after_lt}
use Rattle.task.proofs.Names.{applies_facts, applies_of}
use Rattle.meaning.specs.declared.Clause.{Clause}
use Rattle.meaning.specs.Sets.{meets}
use Rattle.counterexample.specs.Counter.{seen}
use Rattle.certificate.specs.declared.BasicEntry.{BasicEntry}
use Rattle.certificate.specs.declared.BasicEntry.TheVariants.{Empty, Init, Goal, Explicit, Horn, TwoCnf}
use Rattle.leaves.specs.declared.Leaf.{Leaf}
use Rattle.leaves.specs.Leaves.{leaf_in}
use Rattle.leaves.specs.Lists.{Each, leaf_holds, Countered}
use Rattle.propagation.proofs.LeavesLaws.{each_in, each_from}
use Rattle.propagation.specs.declared.Assignment.{Assignment}
use Rattle.propagation.specs.declared.Setting.{Setting}
use Rattle.propagation.specs.Clauses.{LeafOf, LeftOf, UnlistedSet, Unlisted, ClausalSet, Clausal, Usable}
use Rattle.propagation.specs.Propagation.{holding, value, Agrees, Meets, Tells, NoneIn, SolvedTo}
use Rattle.propagation.specs.Propagation.{OpposedTo, Fillable, Ready, Model, Worth, Witness, Sought}
use Rattle.propagation.proofs.ClauseLaws.{Has, met_by_lem, fails_by}
use Rattle.clauses.proofs.ClauseShapes.{Shaped}
use Rattle.clauses.proofs.AssumeLaws.{against, agrees_before}
use Rattle.clauses.proofs.SeekLaws.{tells_no, usable_shaped, candidate_fills, sought_not}
use Rattle.clauses.proofs.FillLaws.{horn_fillable, two_fillable}
use Rattle.clauses.proofs.SetLaws.{InWords, leaf_meets, leaf_fails}

-- ---- the facts from n on

all_below_lem : (n f : ℕ) → f < n → bit f (2 ^ n - 1) ≡ 1
all_below_lem n f l = let e : 2 ^ n - 1 ≡ 2 ^ n - 1 - 0 = omega arith in ap (bit f) e ∙ omega (arith, bit_not n f 0 (pow_pos n) l, bit_none f)

module _ (n : ℕ) (hn : n ≤ 64) where
  high_bit : (f : ℕ) → f < 64 → bit f (2 ^ 64 - 2 ^ n) ≡ 1 - bit f (2 ^ n - 1)
  high_bit f l =
      let e : 2 ^ 64 - 2 ^ n ≡ 2 ^ 64 - 1 - (2 ^ n - 1) = omega (arith, pow_pos n) in
      ap (bit f) e ∙ bit_not 64 f (2 ^ n - 1) (omega (arith, pow_mono {i = n} {j = 64} hn, pow_pos n)) l

  pub high_on : (f : ℕ) → f < 64 → n ≤ f → bit f (2 ^ 64 - 2 ^ n) ≡ 1
  high_on f l k = omega (arith, high_bit f l, bit_high n f (2 ^ n - 1) (omega (arith, pow_pos n)) k)

  pub on_high : (f : ℕ) → bit f (2 ^ 64 - 2 ^ n) ≡ 1 → n ≤ f
  on_high f e =
      elim (dec_lt f n) [
        | yes l ↦ absurd (omega (arith, high_bit f (omega arith), all_below_lem n f l))
        | no l ↦ omega arith
      ]

-- no fact from n on: below 2 ^ n
below_of : (n s : ℕ) → ((f : ℕ) → n ≤ f → bit f s ≡ 0) → s < 2 ^ n
below_of n s h =
    let e : bit_and s (2 ^ n - 1) ≡ s =
    same_bits _ _ (λ f. elim (dec_lt f n) [
      | yes l ↦ omega (arith, bit_and_lem f s (2 ^ n - 1), all_below_lem n f l, bit_le f s)
      | no l ↦ omega (arith, bit_and_lem f s (2 ^ n - 1), h f (omega arith))
    ]) in
    subst (λ (k : ℕ). k < 2 ^ n) e (mask_lt s n)

-- ---- the clause that fails in the states where the action applies

abbrev pub start_clause : ℕ → Action → Clause
start_clause n a = record { positive = bit_or (2 ^ 64 - 2 ^ n) a.off; negative = a.pre }

module _ (n : ℕ) (hn : n ≤ 64) (a : Action) (s : ℕ) where
  abbrev high : ℕ
  high = 2 ^ 64 - 2 ^ n

  pub start_fails : s < 2 ^ n → T (applies a s) → T (not (meets s (start_clause n a)))
  start_fails l t = not_of (meets s (start_clause n a)) (λ m. by (met_by_lem s (start_clause n a) m))
    where
      by : (b : Bool) × (f : ℕ) × Has (start_clause n a) b f × (bit f s ≡ value b) → ⊥
      by (true, f, h, v) =
          elim (dec_lt (bit f a.off) 1) [
            | yes m ↦ omega (arith, bit_high n f s l (on_high n hn f (omega (arith, bit_or_lem f high a.off))))
            | no m ↦ omega (arith, (applies_facts a s t f).1)
          ]
      by (false, f, h, v) = omega (arith, (applies_facts a s t f).0)

  pub fails_start : s < 2 ^ 64 → T (not (meets s (start_clause n a))) → (s < 2 ^ n) × T (applies a s)
  fails_start l t = (
    below_of n s (λ f k. elim (dec_lt f 64) [
      | yes m ↦ off f (omega (arith, high_on n hn f m k))
      | no m ↦ bit_high 64 f s l (omega arith)
    ]),
    applies_of a s (λ f. (
      elim (dec_lt (bit f a.pre) 1) [
        | yes m ↦ omega arith
        | no m ↦ omega (arith, bit_le f a.pre, fails_by s (start_clause n a) t false f (omega (arith, bit_le f a.pre)))
      ],
      elim (dec_lt (bit f a.off) 1) [
        | yes m ↦ omega (arith, bit_le f s)
        | no m ↦ omega (arith, bit_le f a.off, off f (omega arith))
      ],
    )),
  )
    where
      off : (f : ℕ) → 0 < bit f high + bit f a.off → bit f s ≡ 0
      off f m =
          fails_by s (start_clause n a) t true f (omega (arith, bit_or_lem f high a.off, bit_le f high, bit_le f a.off))

-- ---- from the start to the answer

abbrev pub nothing : Assignment
nothing = record { on = 0; off = 0 }

nothing_agrees : (s : ℕ) → s < 2 ^ 64 → Agrees s nothing
nothing_agrees s l = record { fits = l; says = says }
  where
    says : (b : Bool) (f : ℕ) → bit f (holding b nothing) ≡ 1 → bit f s ≡ value b
    says true f e = absurd (omega (arith, bit_none f))
    says false f e = absurd (omega (arith, bit_none f))

module _ (n : ℕ) (hn : n ≤ 64) (a : Action) (s : ℕ) (low : s < 2 ^ n) (allowed : T (applies a s)) where
  -- a state in which the action applies is there at the start
  starts_open : T (not (meets s (start_clause n a))) × Agrees s nothing
  starts_open = (start_fails n hn a s low allowed, nothing_agrees s (omega (arith, low, pow_mono {i = n} {j = 64} hn)))

module _ (two : Bool) (P : Clause → Type 0) (n : ℕ) (hn : n ≤ 64) (a : Action) (x y : Assignment)
    (o : OpposedTo (start_clause n a) nothing x) (u : SolvedTo two P x y) where
  pub start_ready : Ready two P y
  start_ready = record { apart = u.goes.apart (o.goes.apart (λ f. omega (arith, bit_none f))); settled = u.settled }

  -- a witness from there is a state in which the action applies; and such a state is a witness
  witness_starts : {Q : ℕ → Clause → Type 0} (w : Witness P Q 0 y) → (w.state < 2 ^ n) × T (applies a w.state)
  witness_starts w =
      let g = agrees_before (Meets P) x y w.state u.goes w.agrees in
      fails_start n hn a w.state w.agrees.fits (against (start_clause n a) x o.told w.state g)

  starts_agrees : (s : ℕ) → s < 2 ^ n → T (applies a s) → Meets P s → Agrees s y
  starts_agrees s low allowed m =
      let t = starts_open n hn a s low allowed in
      u.goes.sound s m (o.goes.sound s t.0 t.1)

-- ---- what the search tells of the leaves

clausal_unlisted : (bytes : List ℕ) (two : Bool) (x : BasicEntry) → ClausalSet bytes two x → UnlistedSet x
clausal_unlisted bytes two Empty h = tt
clausal_unlisted bytes two Init h = tt
clausal_unlisted bytes two Goal h = tt
clausal_unlisted bytes two (Explicit x) h = absurd h
clausal_unlisted bytes two (Horn x) h = tt
clausal_unlisted bytes two (TwoCnf x) h = tt

module _ (bytes : List ℕ) (left right : List Leaf) (k : Setting) (words : InWords k.ends) (hn : k.ends.facts ≤ 64)
    (add : k.action.add < 2 ^ k.ends.facts) (usable : Usable bytes left k.two)
    (pair : length right ≡ 2) (unlisted : Each Unlisted right) where
  -- the leaf holds the state that it is asked about
  Holding : ℕ → Leaf → Type 0
  Holding s x = T (leaf_holds bytes k.ends k.action s x)

  Failing : ℕ → Leaf → Type 0
  Failing s x = T (not (leaf_holds bytes k.ends k.action s x))

  seen_low : (t : Bool) (s : ℕ) → s < 2 ^ k.ends.facts → seen t k.action s < 2 ^ 64
  seen_low true s l = omega (arith, after_lt k.ends.facts k.action s l add, pow_mono {i = k.ends.facts} {j = 64} hn)
  seen_low false s l = omega (arith, pow_mono {i = k.ends.facts} {j = 64} hn)

  left_unlisted : (j : ℕ) → j < length left → Unlisted (leaf_in left j)
  left_unlisted j l =
      clausal_unlisted bytes k.two (leaf_in left j).set (each_in (Clausal bytes k.two) left usable j l)

  -- what the search tells of
  abbrev Untrue : Type 0
  Untrue = Countered bytes k.ends k.action left right

  -- so each left clause is met
  left_meets : (r : Untrue) → Meets (LeftOf bytes left k) r.state
  unfolding Holding
  left_meets r c (j, l, p) =
      let s = r.state in
      (leaf_meets bytes k.ends words k.action _ (left_unlisted j l) s (seen_low (leaf_in left j).after s r.low)).0
      (each_in (Holding s) left r.holds j l) c p

  -- the action applies in no state, or in none that meets the left clauses
  pub tells_stuck : NoneIn (λ s. T (not (meets s (start_clause k.ends.facts k.action)))) nothing → Tells false Untrue
  tells_stuck n =
      tells_no (λ r. let t = starts_open k.ends.facts hn k.action r.state r.low r.allowed in n r.state t.0 t.1)

  pub tells_unmet : (x : Assignment) → OpposedTo (start_clause k.ends.facts k.action) nothing x → NoneIn (Meets (LeftOf bytes left k)) x
      → Tells false Untrue
  tells_unmet x o n =
      tells_no (λ r.
      let t = starts_open k.ends.facts hn k.action r.state r.low r.allowed in
      n r.state (left_meets r) (o.goes.sound r.state t.0 t.1))

  module _ (x y : Assignment) (o : OpposedTo (start_clause k.ends.facts k.action) nothing x)
      (u : SolvedTo k.two (LeftOf bytes left k) x y) where
    to_countered : Witness (LeftOf bytes left k) (LeafOf bytes right k) 0 y → Untrue
    unfolding Holding Failing
    to_countered w =
        let s = w.state in
        let r = witness_starts k.two _ k.ends.facts hn k.action x y o u w in
        record {
          state = s;
          low = r.0;
          allowed = r.1;
          holds = each_from (Holding s) left (λ j l.
              (leaf_meets bytes k.ends words k.action _ (left_unlisted j l) s (seen_low (leaf_in left j).after s r.0)).1
              (λ c p. w.meets_left c (j, l, p)));
          fails = each_from (Failing s) right (λ j l.
              (leaf_fails bytes k.ends words k.action _ (each_in Unlisted right unlisted j l) s
              (seen_low (leaf_in right j).after s r.0)).1
              (w.fails j (omega arith) (omega arith)));
        }

    of_countered : Untrue → Witness (LeftOf bytes left k) (LeafOf bytes right k) 0 y
    unfolding Failing
    of_countered r =
        let s = r.state in
        record {
          state = s;
          agrees = starts_agrees k.two _ k.ends.facts hn k.action x y o u s r.low r.allowed (left_meets r);
          meets_left = left_meets r;
          fails = λ j _ l.
              (leaf_fails bytes k.ends words k.action _ (each_in Unlisted right unlisted j (omega arith)) s
              (seen_low (leaf_in right j).after s r.low)).0
              (each_in (Failing s) right r.fails j (omega arith));
        }

    -- a candidate was found, and it is known whether it can be filled up
    pub tells_worth : {t r : Bool} → Sought k.two t (LeftOf bytes left k) (LeafOf bytes right k) 0 y → T t
        → Worth k.two (LeftOf bytes left k) y r → Tells r Untrue
    tells_worth found e w =
        record {
          finds = λ t. to_countered (candidate_fills k.two _ _ (w.fills t) (found.finds e));
          sees = λ r. let v = of_countered r in w.sees (v.state, v.agrees, v.meets_left);
        }

    -- none was found
    pub tells_none : {t : Bool} → Sought k.two t (LeftOf bytes left k) (LeafOf bytes right k) 0 y → t ≡ false
        → Tells false Untrue
    tells_none found e = tells_no (λ r. sought_not k.two _ _ found e (of_countered r))

-- ---- whether it is worth while

module _ (bytes : List ℕ) (leaves : List Leaf) (k : Setting) (u : Usable bytes leaves k.two) (x : Assignment) where
  pub worth_two : {r : Bool} → k.two ≡ true → Tells r (Model (LeftOf bytes leaves k) x) → Worth k.two (LeftOf bytes leaves k) x r
  worth_two {r} e t =
      record {
        fills = λ h. let q = t.finds h in fillable k.two e (usable_shaped bytes leaves k u) q.0 q.1.fits q.2;
        sees = t.sees;
      }
    where
      fillable : (two : Bool) → two ≡ true → {P : Clause → Type 0} → ((c : Clause) → P c → Shaped two c) → (s : ℕ) → s < 2 ^ 64
          → Meets P s → Fillable two P
      fillable true e {P} h = two_fillable P h
      fillable false e h = absurd (true≢false (sym e))

  pub worth_horn : k.two ≡ false → Worth k.two (LeftOf bytes leaves k) x true
  worth_horn e = record { fills = λ h. fillable k.two e (usable_shaped bytes leaves k u); sees = λ q. tt }
    where
      fillable : (two : Bool) → two ≡ false → {P : Clause → Type 0} → ((c : Clause) → P c → Shaped two c) → Fillable two P
      fillable true e h = absurd (true≢false e)
      fillable false e {P} h = horn_fillable P h
