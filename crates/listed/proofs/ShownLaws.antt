-- One state and one action that make a statement untrue, as the code tests them and as `Countered` puts them.
-- Assumes nothing.
use mathlib.Core.Path.{◌≡◌, refl, ap, subst, sym, ◌∙◌}
use mathlib.Core.Logic.{◌↔◌, ◌⊎◌, inl, inr}
use Prim.Native.Nat.{ℕ, zero, suc, ◌+◌, ◌-◌, ◌*◌, ◌^◌, ◌≤◌, ◌<◌}
use native.Mathlib.Omega.{arith}
use native.Mathlib.Decide.{dec_lt}
use mathlib.Core.Bool.{Bool, true, false, not, ◌&&◌, ◌||◌}
use mathlib.Core.List.{List, [], ◌∷◌}
use lib.ListN.{length, get_or}
use Rattle.std.proofs.Math.Bool.{beq}
use Rattle.std.proofs.lemmas.List.{get_or_default}
use lib.Bits.{bit_or}
use lib.Dec.{T, eqb, eqb→eq}
use Rattle.task.specs.declared.Action.{Action}
use Rattle.task.specs.declared.Ends.{Ends}
use Rattle.task.specs.Task.{applies, after}
use Rattle.task.specs.Reach.{member}
use Rattle.task.proofs.Bits.{no_change}
use Rattle.task.proofs.Tests.{and_left, and_right, and_both, both_ways, or_cases, or_right}
use Rattle.task.proofs.Tests.{holds, is_false, never}
use Rattle.file_numbers.specs.Numbers.{number_at}
use Rattle.meaning.specs.Sets.{all_below, some_below}
use Rattle.meaning.proofs.Below.{all_at, all_of, some_at, some_of}
use Rattle.certificate.specs.declared.Span.{Span}
use Rattle.certificate.specs.declared.BasicEntry.{BasicEntry}
use Rattle.certificate.specs.declared.BasicEntry.TheVariants.{Empty, Init, Goal, Explicit, Horn, TwoCnf}
use Rattle.counterexample.specs.Counter.{seen}
use Rattle.leaves.specs.declared.Leaf.{Leaf}
use Rattle.leaves.specs.Leaves.{leaf_in}
use Rattle.certificate.specs.Rows.{row_of, state_in, InOrder}
use Rattle.leaves.specs.Holds.{states_at, set_holds}
use Rattle.leaves.specs.Lists.{Each, leaf_holds, Countered}
use Rattle.listed.specs.Listed.{ListsStates, Anchored}
use Rattle.listed.specs.Search.{StatesAfter, Different, OneInitial, holds_one, told, shows_in}
use Rattle.membership.proofs.SearchLaws.{listed_at, listed_in_order}
use Rattle.listed.specs.Told.{shows}
use Rattle.listed.specs.declared.Statement.{Statement}
use Rattle.membership.specs.declared.Listed.{Listed}
use Rattle.listed.proofs.InitialLaws.{initial_low}

-- leaf j of a list: what is so of each leaf, and what is so of each by its number
pub each_leaf : (P : Leaf → Type 0) (leaves : List Leaf) → Each P leaves → (j : ℕ) → j < length leaves → P (leaf_in leaves j)
unfolding leaf_in
each_leaf P [] h j l = absurd (omega arith)
each_leaf P (x ∷ xs) h zero l = h.0
each_leaf P (x ∷ xs) h (suc j) l = each_leaf P xs h.1 j (omega arith)

pub each_leaf_of : (P : Leaf → Type 0) (leaves : List Leaf) → ((j : ℕ) → j < length leaves → P (leaf_in leaves j)) → Each P leaves
unfolding leaf_in
each_leaf_of P [] h = tt
each_leaf_of P (x ∷ xs) h = (h 0 (omega arith), each_leaf_of P xs (λ j l. h (suc j) (omega arith)))

-- ---- what was asked of a leaf

same_told : (h b : Bool) → elim b [ true ↦ h | false ↦ not h ] ≡ beq h b
same_told true true = refl
same_told true false = refl
same_told false true = refl
same_told false false = refl

module _ (bytes : List ℕ) (ends : Ends) (b : Bool) (s t : ℕ) where
  pub as_told : (x : Leaf) → told bytes ends b s t x ≡ beq (holds_one bytes ends s t x) b
  unfolding told
  as_told x = same_told (holds_one bytes ends s t x) b

  -- leaf j, at any default
  pub told_at : (leaves : List Leaf) (j : ℕ) (d : Leaf) {h : Bool} → j < length leaves → h ≡ holds_one bytes ends s t (get_or leaves j d)
      → told bytes ends b s t (leaf_in leaves j) ≡ beq h b
  unfolding leaf_in
  told_at leaves j d l e =
      as_told _ ∙ ap (λ (x : Leaf). beq (holds_one bytes ends s t x) b) (get_or_default leaves j _ d l) ∙ ap (λ (h : Bool). beq h b) (sym e)

-- ---- three tests, one after the other

third_fails : (p q : Bool) {n : Bool} → n ≡ false → (p && q && n) ≡ false
third_fails true true e = e
third_fails true false e = refl
third_fails false q e = refl

module _ (bytes : List ℕ) (ends : Ends) (a : Action) (left right : List Leaf) (anchor s : ℕ) where
  -- every left leaf but the anchor holds, no right leaf does; t is the state after the action
  abbrev Lefts : ℕ → Bool
  Lefts t = all_below (length left) (λ j. eqb anchor j || holds_one bytes ends s t (leaf_in left j))

  abbrev Rights : ℕ → Bool
  Rights t = all_below (length right) (λ j. not (holds_one bytes ends s t (leaf_in right j)))

  pub shows_applies : T (shows_in bytes ends a left right anchor s) → T (applies a s)
  unfolding shows_in
  shows_applies t =
      let w = after a s in and_left (applies a s) (Lefts w) (and_left (applies a s && Lefts w) (Rights w) t)

  -- it is not shown where the action does not apply, and else as the two tests tell
  pub shows_not_applies : applies a s ≡ false → shows_in bytes ends a left right anchor s ≡ false
  unfolding shows_in
  shows_not_applies e = rw e refl

  module _ {t : ℕ} (e : t ≡ after a s) (p : applies a s ≡ true) where
    pub shows_not_left : Lefts t ≡ false → false ≡ shows_in bytes ends a left right anchor s
    unfolding shows_in
    shows_not_left h = rw (p, ← e, h) refl

    pub shows_rest : Lefts t ≡ true → Rights t ≡ shows_in bytes ends a left right anchor s
    unfolding shows_in
    shows_rest h = rw (p, ← e, h) refl

  -- where the first right leaf is asked about the state after the action, or that is the state before it
  asked_after : ((leaf_in right 0).after ≡ true) ⊎ (bit_or a.add a.del ≡ 0)
      → elim (leaf_in right 0).after [ true ↦ after a s | false ↦ s ] ≡ after a s
  asked_after (inl f) = rw f refl
  asked_after (inr z) = by (leaf_in right 0).after
    where
      by : (b : Bool) → elim b [ true ↦ after a s | false ↦ s ] ≡ after a s
      by true = refl
      by false = sym (no_change a s z)

  -- and lists that state, nothing is shown
  shows_closed : (p : Span) → 0 < length right → (leaf_in right 0).set ≡ Explicit p → ((leaf_in right 0).after ≡ true) ⊎ (bit_or a.add a.del ≡ 0)
      → T (member (after a s) (states_at bytes p.at p.count)) → shows_in bytes ends a left right anchor s ≡ false
  unfolding shows_in holds_one set_holds
  shows_closed p l k f t =
      third_fails (applies a s) (Lefts (after a s)) (is_false (Rights (after a s)) (λ h.
      let n = all_at (length right) (λ j. not (holds_one bytes ends s (after a s) (leaf_in right j))) h 0 l in
      never (member (after a s) (states_at bytes p.at p.count)) t (rw (k, asked_after f) at n)))

-- the first right leaf, as the code reads it
pub first_after : (right : List Leaf) (a : Action) {x : Leaf} {p : Span} → 0 < length right → x ≡ get_or right 0 x → x.set ≡ Explicit p
    → (x.after ≡ true) ⊎ (bit_or a.add a.del ≡ 0) → StatesAfter right a p
unfolding leaf_in
first_after right a {x} l e s f =
    let q = e ∙ get_or_default right 0 x _ l in (
      l,
      ap (λ (y : Leaf). y.set) (sym q) ∙ s,
      elim f [ inl t ↦ inl (ap (λ (y : Leaf). y.after) (sym q) ∙ t) | inr z ↦ inr z ],
    )

-- a state from which the action leads to a state that the first right leaf lists is not shown
module _ (bytes : List ℕ) (ends : Ends) (left right : List Leaf) (a : Action) (anchor : ℕ) where
  pub led_shows : {p : Span} (s : ℕ) {t : ℕ} → StatesAfter right a p → t ≡ after a s → member t (states_at bytes p.at p.count) ≡ true
      → shows_in bytes ends a left right anchor s ≡ false
  led_shows {p = p} s (l, k, f) e h = shows_closed bytes ends a left right anchor s p l k f (holds (rw e at h))

pub trailed : (x : Statement) (p : Listed) → (p.bytes.now ≡ x.file.now.bytes.now) × StatesAfter x.right.now x.a p.span → (s : ℕ) {u : ℕ}
    → u ≡ after x.a s → member u (states_at p.bytes.now p.span.at p.span.count) ≡ true → shows x s ≡ false
trailed x p f s e m = led_shows x.file.now.bytes.now x.file.now.ends x.left.now x.right.now x.a x.anchor s f.1 e (rw f.0 at m)

-- ---- what is shown, and what makes the statement untrue

picked : (a : Action) (s : ℕ) (b : Bool) → elim b [ true ↦ after a s | false ↦ s ] ≡ seen b a s
picked a s true = refl
picked a s false = refl

-- with the state after the action worked out, a leaf is asked the same
as_asked : (bytes : List ℕ) (ends : Ends) (a : Action) (s : ℕ) (x : Leaf)
    → holds_one bytes ends s (after a s) x ≡ leaf_holds bytes ends a s x
unfolding holds_one leaf_holds
as_asked bytes ends a s x = ap (set_holds bytes ends x.set) (picked a s x.after)

module _ (bytes : List ℕ) (ends : Ends) (a : Action) (left right : List Leaf) (anchor : ℕ)
    (among : anchor < length left) (is : Anchored bytes ends (leaf_in left anchor)) where
  abbrev Found : Type 0
  Found = Countered bytes ends a left right

  abbrev In : ℕ → Bool
  In s = shows_in bytes ends a left right anchor s

  -- the test of left leaf j; the left tests and the right tests of a state
  abbrev L : ℕ → ℕ → Bool
  L s j = holds_one bytes ends s (after a s) (leaf_in left j)

  abbrev Ls : ℕ → Bool
  Ls s = Lefts bytes ends a left right anchor s (after a s)

  abbrev Rs : ℕ → Bool
  Rs s = Rights bytes ends a left right anchor s (after a s)

  -- the anchor's set holds a state
  abbrev set : BasicEntry
  set = (leaf_in left anchor).set

  abbrev Of : BasicEntry → ℕ → Type 0
  Of y s = T (set_holds bytes ends y s)

  anchor_asked : (s : ℕ) → leaf_holds bytes ends a s (leaf_in left anchor) ≡ set_holds bytes ends set s
  unfolding leaf_holds
  anchor_asked s = rw is.0 refl

  -- a state of the anchor that passes the tests makes the statement untrue, and every state that does is one of the anchor and passes them
  counters_of : (s : ℕ) → s < 2 ^ ends.facts → Of set s → T (In s) → Found
  unfolding shows_in
  counters_of s low h t =
      let before : T (applies a s && Ls s) = and_left (applies a s && Ls s) (Rs s) t in
      record {
        state = s;
        low = low;
        allowed = and_left (applies a s) (Ls s) before;
        holds = each_leaf_of (λ x. T (leaf_holds bytes ends a s x)) left (λ j l.
            elim (or_cases (eqb anchor j) (L s j) (all_at (length left) _ (and_right (applies a s) (Ls s) before) j l)) [
              | inl e ↦ rw (← eqb→eq anchor j e) (subst T (sym (anchor_asked s)) h)
              | inr k ↦ subst T (as_asked bytes ends a s (leaf_in left j)) k
            ]);
        fails = each_leaf_of (λ x. T (not (leaf_holds bytes ends a s x))) right (λ j l.
            subst (λ (b : Bool). T (not b)) (as_asked bytes ends a s (leaf_in right j))
            (all_at (length right) _ (and_right (applies a s && Ls s) (Rs s) t) j l));
      }

  counters_in : (w : Found) → T (In w.state)
  unfolding shows_in
  counters_in w =
      let s : ℕ = w.state in
      and_both (applies a s && Ls s) (Rs s)
      (and_both (applies a s) (Ls s) w.allowed
      (all_of (length left) _ (λ j l. or_right (eqb anchor j) (L s j)
      (subst T (sym (as_asked bytes ends a s (leaf_in left j)))
      (each_leaf (λ x. T (leaf_holds bytes ends a s x)) left w.holds j l)))))
      (all_of (length right) _ (λ j l. subst (λ (b : Bool). T (not b)) (sym (as_asked bytes ends a s (leaf_in right j)))
      (each_leaf (λ x. T (not (leaf_holds bytes ends a s x))) right w.fails j l)))

  counters_anchor : (w : Found) → Of set w.state
  counters_anchor w =
      subst T (anchor_asked w.state) (each_leaf (λ x. T (leaf_holds bytes ends a w.state x)) left w.holds anchor among)

  -- ---- the anchor lists no state; the initial states; those of a span

  shown_none : set ≡ Empty → T false ↔ Found
  unfolding set_holds
  shown_none e = ((λ x. absurd x), (λ w. subst (λ (y : BasicEntry). Of y w.state) e (counters_anchor w)))

  -- any other set is not an anchor's
  shown_never : (y : BasicEntry) → set ≡ y → (ListsStates bytes ends y → ⊥) → T false ↔ Found
  shown_never y e n = absurd (n (subst (ListsStates bytes ends) e is.1))

  pub shown_other : (set ≡ Init → ⊥) → ((x : Span) → set ≡ Explicit x → ⊥) → T false ↔ Found
  shown_other i e = by set refl
    where
      by : (y : BasicEntry) → set ≡ y → T false ↔ Found
      by Empty q = shown_none q
      by Init q = absurd (i q)
      by Goal q = shown_never Goal q (λ h. h)
      by (Explicit x) q = absurd (e x q)
      by (Horn x) q = shown_never (Horn x) q (λ h. h)
      by (TwoCnf x) q = shown_never (TwoCnf x) q (λ h. h)

  pub shown_initial : (b : Bool) → set ≡ Init → (T b ↔ OneInitial ends In) → T b ↔ Found
  unfolding set_holds
  shown_initial b e q = (
    (λ t.
        let (s, h, i) = q.0 t in
        counters_of s (initial_low ends s (subst (ListsStates bytes ends) e is.1) h) (rw e h) i),
    (λ w. q.1 (w.state, subst (λ (y : BasicEntry). Of y w.state) e (counters_anchor w), counters_in w)),
  )

  pub shown_some : {b : Bool} (index : List ℕ) (x : Span) → InOrder bytes index x → set ≡ Explicit x
      → b ≡ some_below x.count (λ i. In (state_in bytes index x i)) → T b ↔ Found
  unfolding set_holds
  shown_some index x o e q = rw q (
    (λ t.
        let w = some_at x.count _ t in
        let h = listed_at bytes x.at x.count (row_of index x w.0) (o.below w.0 w.1) in
        counters_of (state_in bytes index x w.0) (subst (ListsStates bytes ends) e is.1 _ h) (rw e h) w.2),
    (λ w.
        let h = subst (λ (y : BasicEntry). Of y w.state) e (counters_anchor w) in
        let v = listed_in_order bytes index x w.state o h in
        some_of x.count _ v.0 v.1 (subst (λ (s : ℕ). T (In s)) v.2 (counters_in w))),
  )

-- ---- the states that differ

module _ {bytes index : List ℕ} {x : Span} (o : InOrder bytes index x) {m : ℕ} (d : Different index x m) where
  -- those behind them are the last of them again
  again : (k : ℕ) → m ≤ k → k < x.count → state_in bytes index x k ≡ state_in bytes index x (m - 1)
  again k l h =
      let (some, named) = d.1 (omega arith) in
      let e = ap (λ (r : ℕ). number_at 8 bytes (x.at + 8 * r)) named in
      let a = o.ascend (m - 1) k (omega arith) h in
      let b = o.ascend k (x.count - 1) (omega arith) (omega arith) in
      omega arith

  -- so it is enough to look at them
  pub some_different : (p : ℕ → Bool)
      → some_below m (λ i. p (state_in bytes index x i)) ≡ some_below x.count (λ i. p (state_in bytes index x i))
  some_different p = both_ways _ _
      (λ t. let (k, l, h) = some_at m _ t in some_of x.count _ k (omega (arith, d.0)) h)
      (λ t.
      let (k, l, h) = some_at x.count _ t in
      elim (dec_lt k m) [
        | yes n ↦ some_of m _ k n h
        | no n ↦
            let (some, named) = d.1 (omega arith) in
            some_of m _ (m - 1) (omega arith) (subst (λ (s : ℕ). T (p s)) (again k (omega arith) l) h)
      ])
