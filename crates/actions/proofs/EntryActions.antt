-- What an action set of a checked file holds, by the view that the code has of it; and its actions are the task's.
-- Assumes nothing.
use mathlib.Core.Path.{◌≡◌, refl, sym, ap, ◌∙◌, subst}
use mathlib.Core.Logic.{inl, inr}
use Prim.Native.Nat.{ℕ, zero, suc, ◌+◌, ◌*◌, ◌≤◌, ◌<◌}
use native.Mathlib.Omega.{arith}
use mathlib.Core.Bool.{Bool, not, ◌||◌}
use mathlib.Core.List.{List, [], ◌∷◌}
use lib.ListN.{length, get_or}
use lib.Dec.{T, ltb, ltb→lt, eqb→eq}
use Rattle.task.specs.Task.{Task}
use Rattle.task.specs.Reach.{member}
use Rattle.task.proofs.Tests.{both_ways, member_first, member_rest, member_none, member_cases, or_cases, implied, same}
use Rattle.certificate.specs.declared.Span.{Span}
use Rattle.certificate.specs.declared.ActionEntry.{ActionEntry}
use Rattle.certificate.specs.declared.ActionEntry.TheVariants.{All, Listed, Either}
use Rattle.meaning.specs.File.{ActionSet, all, listed, either, File, action_set_at}
use Rattle.certificate.specs.Views.{view_of_actions}
use Rattle.file_numbers.specs.Numbers.{number_at}
use Rattle.meaning.specs.Writing.{AllFrom, FitsActionSet}
use Rattle.certificate.specs.Index.{action_place}
use Rattle.certificate.specs.Known.{Known, decoded}
use Rattle.certificate.proofs.ItemLaws.{Items}
use Rattle.meaning.proofs.Order.{EarlierActions, action_set_fits}
use Rattle.certificate.proofs.SeenLaws.{ActionsSeen, actions_seen}
use Rattle.certificate.proofs.KnownLaws.{read_file_lem, read_ordered, known_action_set}
use Rattle.meaning.specs.Sets.{all_below, action_node, in_actions, actions_within}
use Rattle.actions.specs.Marks.{marked, Marks, listed_in}
use Rattle.meaning.proofs.Below.{all_at, all_of, some_at, some_of}
use Rattle.meaning.proofs.Nodes.{in_actions_lem}
use Rattle.meaning.proofs.Sets.{implies_of}

-- ---- listed numbers, by index and by place

member_index : (j : ℕ) (xs : List ℕ) → T (member j xs) → (i : ℕ) × (i < length xs) × (get_or xs i 0 ≡ j)
member_index j [] m = absurd (member_none j m)
member_index j (x ∷ xs) m =
    elim (member_cases j x xs m) [
      | inl q ↦ (0, omega arith, sym q)
      | inr r ↦ (let w = member_index j xs r in (suc w.0, omega (arith, w.1), w.2))
    ]

index_member : (xs : List ℕ) (i : ℕ) → i < length xs → T (member (get_or xs i 0) xs)
index_member [] i l = absurd (omega arith)
index_member (x ∷ xs) zero l = member_first x x xs refl
index_member (x ∷ xs) (suc i) l = member_rest (get_or xs i 0) x xs (index_member xs i (omega arith))

listed_member : (bytes : List ℕ) (p : ℕ) (xs : List ℕ) → Items bytes 2 (number_at 2 bytes) p xs → (j : ℕ)
    → member j xs ≡ listed_in bytes p (length xs) j
unfolding listed_in
listed_member bytes p xs h j =
    both_ways _ _
    (λ m. let w = member_index j xs m in some_of (length xs) _ w.0 w.1 (same (h.here 0 w.0 w.1 ∙ w.2)))
    (λ s.
    let w = some_at (length xs) _ s in
    let e : get_or xs w.0 0 ≡ j = sym (h.here 0 w.0 w.1) ∙ eqb→eq (number_at 2 bytes (p + 2 * w.0)) j w.2 in
    subst (λ (x : ℕ). T (member x xs)) e (index_member xs w.0 w.1))

-- ---- an action set is within the task's actions

member_fits : (m n : ℕ) (is : List ℕ) → AllFrom (λ i j. j < m) n is → (j : ℕ) → T (member j is) → j < m
member_fits m n [] h j t = absurd (member_none j t)
member_fits m n (x ∷ is) h j t =
    elim (member_cases j x is t) [ inl q ↦ subst (λ (y : ℕ). y < m) (sym q) h.0 | inr r ↦ member_fits m (suc n) is h.1 j r ]

node_fits : (t : Task) (g : ℕ → ℕ → Bool) (e : ℕ) (x : ActionSet) → FitsActionSet (length t.actions) e x
    → ((a i : ℕ) → a < e → T (g a i) → i < length t.actions) → (i : ℕ) → T (action_node t g x i) → i < length t.actions
unfolding action_node
node_fits t g e all h k i u = ltb→lt i (length t.actions) u
node_fits t g e (listed is) h k i u = member_fits (length t.actions) 0 is h.2 i u
node_fits t g e (either a b) h k i u = elim (or_cases (g a i) (g b i) u) [ inl s ↦ k a i h.0 s | inr s ↦ k b i h.1 s ]

module _ (bytes : List ℕ) (index : List ℕ) (k : Known bytes index) where
  abbrev f : File
  f = decoded bytes

  actions_below : (n e i : ℕ) → e < n → T (in_actions f e i) → i < length f.task.actions
  actions_below zero e i l t = absurd (omega arith)
  actions_below (suc n) e i l t =
      node_fits f.task (in_actions f) e (action_set_at f e) (action_set_fits bytes f (read_file_lem bytes k.read) e)
      (λ a j b. actions_below n a j (omega arith)) i
      (subst (λ (X : ℕ → Bool). T (X i)) (in_actions_lem f (read_ordered bytes k.read) e) t)

  -- marks that are all marked: the inclusion of the two sets
  pub within_marks : (a b : ℕ) (u v : List ℕ) → Marks u (in_actions f a) → Marks v (in_actions f b)
      → all_below 256 (λ i. not (marked u i) || marked v i) ≡ actions_within f a b
  unfolding actions_within
  within_marks a b u v p q =
      let n = length f.task.actions in
      let few : n ≤ 256 = (read_file_lem bytes k.read).task.few_actions in
      both_ways _ _
      (λ h. all_of n _ (λ i l.
      let c : i < 256 = omega arith in
      implies_of (in_actions f a i) (in_actions f b i)
      (λ t. subst T (q i c) (implied (marked u i) (marked v i) (all_at 256 _ h i c) (subst T (sym (p i c)) t)))))
      (λ h. all_of 256 _ (λ i c.
      implies_of (marked u i) (marked v i) (λ s.
      let t = subst T (p i c) s in
      subst T (sym (q i c)) (implied (in_actions f a i) (in_actions f b i) (all_at n _ h i (actions_below (suc a) a i (omega arith) t)) t))))

  -- ---- entry e, and what it holds by the view of it

  module _ (e : ℕ) (l : e < length f.action_sets) where
    pub small : e < 256
    small = let h = (read_file_lem bytes k.read).few_action_sets in omega arith

    module _ (v : ActionEntry) (q : v ≡ view_of_actions (action_place index e) (action_set_at f e)) where
      seen : (w : ActionEntry) → v ≡ w → ActionsSeen bytes w (action_set_at f e)
      seen w z =
          let s = known_action_set bytes index k e l in
          subst (λ (y : ActionEntry). ActionsSeen bytes y (action_set_at f e)) z
          (actions_seen bytes (action_place index e) (action_set_at f e) s v (q ∙ sym s.view))

      holds : (x : ActionSet) → action_set_at f e ≡ x → (i : ℕ) → in_actions f e i ≡ action_node f.task (in_actions f) x i
      holds x z i =
          ap (λ (X : ℕ → Bool). X i) (in_actions_lem f (read_ordered bytes k.read) e)
          ∙ ap (λ (y : ActionSet). action_node f.task (in_actions f) y i) z

      pub all_in : v ≡ All → (i : ℕ) → in_actions f e i ≡ ltb i (length f.task.actions)
      unfolding action_node
      all_in z i = holds all (seen All z) i

      pub listed_in_lem : (s : Span) → v ≡ Listed s → (i : ℕ) → in_actions f e i ≡ listed_in bytes s.at s.count i
      unfolding action_node
      listed_in_lem s z i =
          let (is, x, h) = seen (Listed s) z in
          holds (listed is) x i ∙ listed_member bytes s.at is h.items i ∙ ap (λ (n : ℕ). listed_in bytes s.at n i) (sym h.count)

      pub either_in : (a b : ℕ) → v ≡ Either a b → (i : ℕ) → in_actions f e i ≡ (in_actions f a i || in_actions f b i)
      unfolding action_node
      either_in a b z i = holds (either a b) (seen (Either a b) z) i

      pub either_below : (a b : ℕ) → v ≡ Either a b → (a < e) × (b < e)
      either_below a b z = subst (EarlierActions e) (seen (Either a b) z) ((read_ordered bytes k.read).actions e)

      pub either_small : (a b : ℕ) → v ≡ Either a b → (a < 256) × (b < 256)
      either_small a b z =
          let h = small in
          let w = either_below a b z in
          (omega arith, omega arith)
