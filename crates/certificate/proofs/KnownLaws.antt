-- What is known of a checked file, as its entries, actions and steps.
-- Assumes nothing.
use mathlib.Core.Path.{◌≡◌, refl, sym, ap, subst}
use Prim.Native.Nat.{ℕ, zero, suc, ◌+◌, ◌*◌, ◌≤◌, ◌<◌}
use native.Mathlib.Nat.{not-suc-le-zero, le_of_suc-le-suc}
use native.Mathlib.Decide.{dec_lt}
use native.Mathlib.Omega.{arith}
use mathlib.Core.List.{List, [], ◌∷◌}
use lib.ListN.{length, get_or}
use Rattle.task.specs.Task.{action_at}
use Rattle.task.specs.Inner.{ends_of}
use Rattle.file_numbers.specs.Numbers.{number_at}
use Rattle.certificate.specs.declared.Places.{Places}
use Rattle.certificate.specs.declared.ActionEntry.TheVariants.{All}
use Rattle.certificate.specs.declared.BasicEntry.TheVariants.{Empty}
use Rattle.certificate.specs.declared.StateEntry.TheVariants.{Basic}
use Rattle.certificate.specs.declared.Judgement.TheVariants.{Dead}
use Rattle.meaning.specs.File.{action_set_at, state_set_at, step_at}
use Rattle.meaning.specs.Layout.{action_count_at, action_size}
use Rattle.certificate.specs.Views.{places_of, state_entry_at, action_entry_at, view_of, view_of_basic, view_of_actions, step_read}
use Rattle.certificate.specs.Views.{actions_in, action_in}
use Rattle.certificate.specs.Views.{judgement_of, judgement_at}
use Rattle.certificate.specs.Index.{state_place, action_place}
use Rattle.certificate.specs.Known.{decoded, IsRead, Known, Placed}
use Rattle.certificate.proofs.EntryLaws.{StateSetStands, ActionSetStands}
use Rattle.meaning.proofs.Reading.{Read, file_read}
use Rattle.meaning.proofs.Order.{Ordered, ordered}
use Rattle.meaning.proofs.TaskBounds.{fits_bounded}
use Rattle.task.proofs.Moves.{Bounded}
use Rattle.certificate.proofs.ViewLaws.{PlacesFit, places_fit, action_at_lem, version_at, action_count_at_lem, step_at_lem, indexed_state_set}
use Rattle.certificate.proofs.ViewLaws.{indexed_action_set}

past : {A : Type 0} (xs : List A) (i : ℕ) (d : A) → length xs ≤ i → get_or xs i d ≡ d
past [] i d h = refl
past (x ∷ xs) zero d h = absurd (not-suc-le-zero h)
past (x ∷ xs) (suc i) d h = past xs i d (le_of_suc-le-suc h)

-- ---- the file was read

module _ (bytes : List ℕ) (r : IsRead bytes) where
  pub read_file_lem : Read bytes (decoded bytes)
  read_file_lem = file_read bytes (decoded bytes) r

  pub read_short : length bytes ≤ 65536
  read_short = (places_fit bytes (decoded bytes) r).short

  pub read_ordered : Ordered (decoded bytes)
  read_ordered = ordered bytes (decoded bytes) read_file_lem

  pub read_bounded : Bounded (decoded bytes).task
  read_bounded = fits_bounded (decoded bytes).task read_file_lem.task

  -- its actions
  pub read_version : number_at 1 bytes 4 ≡ (decoded bytes).version
  read_version = version_at bytes (decoded bytes) r

  pub read_actions : (let v : ℕ = (decoded bytes).version in
      record { at = action_count_at v + 2; size = action_size v; count = number_at 2 bytes (action_count_at v) })
      ≡ actions_in (decoded bytes)
  unfolding actions_in
  read_actions = λ i. record {
    at = action_count_at (decoded bytes).version + 2;
    size = action_size (decoded bytes).version;
    count = action_count_at_lem bytes (decoded bytes) r i;
  }

  pub read_action : (i : ℕ) → i < length (decoded bytes).task.actions
      → let x = actions_in (decoded bytes) in action_in bytes x.size (x.at + x.size * i) ≡ action_at (decoded bytes).task i
  read_action i l = action_at_lem bytes (decoded bytes) r i l

  pub read_no_action : (i : ℕ) → length (decoded bytes).task.actions ≤ i
      → record { pre = 0; add = 0; del = 0; off = 0 } ≡ action_at (decoded bytes).task i
  unfolding action_at
  read_no_action i l = sym (past (decoded bytes).task.actions i _ l)

-- ---- its places

module _ (bytes : List ℕ) (at : Places) (k : Placed bytes at) where
  pub placed_fit : PlacesFit bytes at
  placed_fit = subst (PlacesFit bytes) (sym k.places) (places_fit bytes (decoded bytes) k.read)

  pub placed_ends : at.ends ≡ ends_of (decoded bytes).task
  unfolding places_of
  placed_ends = ap (λ (q : Places). q.ends) k.places

  pub placed_actions : at.actions ≡ length (decoded bytes).task.actions
  unfolding places_of
  placed_actions = ap (λ (q : Places). q.actions) k.places

  pub placed_action_sets : at.action_sets ≡ length (decoded bytes).action_sets
  unfolding places_of
  placed_action_sets = ap (λ (q : Places). q.action_sets) k.places

  pub placed_state_sets : at.state_sets ≡ length (decoded bytes).state_sets
  unfolding places_of
  placed_state_sets = ap (λ (q : Places). q.state_sets) k.places

  pub placed_steps : at.steps ≡ length (decoded bytes).steps
  unfolding places_of
  placed_steps = ap (λ (q : Places). q.steps) k.places

  pub placed_step : (n : ℕ) → n < at.steps → step_read bytes (at.steps_at + 12 * n) ≡ step_at (decoded bytes) n
  placed_step n l = rw k.places (step_at_lem bytes (decoded bytes) k.read n (rw placed_steps at l))

  pub placed_no_step : (n : ℕ) → at.steps ≤ n → Dead 0 ≡ judgement_at (decoded bytes) n
  unfolding judgement_at judgement_of step_at
  placed_no_step n l = rw (past (decoded bytes).steps n _ (rw placed_steps at l)) refl

-- ---- the table of its entries

module _ (bytes : List ℕ) (index : List ℕ) (k : Known bytes index) where
  -- an entry stands where the table says, with its view and its items
  pub known_state_set : (e : ℕ) → e < length (decoded bytes).state_sets
      → StateSetStands bytes (state_place index e) (state_set_at (decoded bytes) e)
  known_state_set e l = (indexed_state_set bytes (decoded bytes) k.read index k.table e l).0

  pub known_action_set : (a : ℕ) → a < length (decoded bytes).action_sets
      → ActionSetStands bytes (action_place index a) (action_set_at (decoded bytes) a)
  known_action_set a l = (indexed_action_set bytes (decoded bytes) k.read index k.table a l).0

  -- the table has 0 just where there is no entry
  no_state_set_lem : (e : ℕ) → length (decoded bytes).state_sets ≤ e → state_place index e ≡ 0
  unfolding places_of
  no_state_set_lem e l = k.table.no_state_set e l

  no_action_set_lem : (a : ℕ) → length (decoded bytes).action_sets ≤ a → action_place index a ≡ 0
  unfolding places_of
  no_action_set_lem a l = k.table.no_action_set a l

  pub known_state_here : (e : ℕ) → (state_place index e ≡ 0 → ⊥)
      → state_entry_at bytes (state_place index e) ≡ view_of (state_place index e) (state_set_at (decoded bytes) e)
  known_state_here e n =
      elim (dec_lt e (length (decoded bytes).state_sets)) [
        | yes l ↦ (known_state_set e l).view
        | no l ↦ absurd (n (no_state_set_lem e (omega arith)))
      ]

  pub known_state_none : (e : ℕ) → state_place index e ≡ 0 → Basic Empty ≡ view_of (state_place index e) (state_set_at (decoded bytes) e)
  unfolding state_set_at view_of view_of_basic
  known_state_none e z =
      elim (dec_lt e (length (decoded bytes).state_sets)) [
        | yes l ↦ absurd (let h = (indexed_state_set bytes (decoded bytes) k.read index k.table e l).1 in omega arith)
        | no l ↦ rw (past (decoded bytes).state_sets e _ (omega arith)) refl
      ]

  pub known_actions_here : (a : ℕ) → (action_place index a ≡ 0 → ⊥)
      → action_entry_at bytes (action_place index a) ≡ view_of_actions (action_place index a) (action_set_at (decoded bytes) a)
  known_actions_here a n =
      elim (dec_lt a (length (decoded bytes).action_sets)) [
        | yes l ↦ (known_action_set a l).view
        | no l ↦ absurd (n (no_action_set_lem a (omega arith)))
      ]

  pub known_actions_none : (a : ℕ) → action_place index a ≡ 0 → All ≡ view_of_actions (action_place index a) (action_set_at (decoded bytes) a)
  unfolding action_set_at view_of_actions
  known_actions_none a z =
      elim (dec_lt a (length (decoded bytes).action_sets)) [
        | yes l ↦ absurd (let h = (indexed_action_set bytes (decoded bytes) k.read index k.table a l).1 in omega arith)
        | no l ↦ rw (past (decoded bytes).action_sets a _ (omega arith)) refl
      ]

  -- an entry that there is stands within the file
  pub known_state_room : (e : ℕ) → (state_place index e ≡ 0 → ⊥) → state_place index e + 7 ≤ length bytes
  known_state_room e n =
      elim (dec_lt e (length (decoded bytes).state_sets)) [
        | yes l ↦ (indexed_state_set bytes (decoded bytes) k.read index k.table e l).2
        | no l ↦ absurd (n (no_state_set_lem e (omega arith)))
      ]

  pub known_actions_room : (a : ℕ) → (action_place index a ≡ 0 → ⊥) → action_place index a + 7 ≤ length bytes
  known_actions_room a n =
      elim (dec_lt a (length (decoded bytes).action_sets)) [
        | yes l ↦ (indexed_action_set bytes (decoded bytes) k.read index k.table a l).2
        | no l ↦ absurd (n (no_action_set_lem a (omega arith)))
      ]
