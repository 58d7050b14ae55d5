-- The views of a file that is read are those of what it holds: entries, their items, actions and steps, each at its place.
-- Assumes nothing.
use mathlib.Core.Path.{◌≡◌, sym, subst}
use Prim.Native.Nat.{ℕ, ◌+◌, ◌*◌, ◌≤◌, ◌<◌}
use native.Mathlib.Omega.{arith}
use mathlib.Core.List.{List, []}
use lib.ListN.{length}
use Rattle.task.specs.Task.{action_at}
use Rattle.task.specs.Inner.{ends_of}
use Rattle.certificate.specs.declared.Places.{Places}
use Rattle.meaning.specs.Result.{found}
use Rattle.meaning.specs.File.{all, basic, empty, File, action_set_at, state_set_at, step_at}
use Rattle.meaning.specs.Layout.{action_count_at, after_actions, read_file}
use Rattle.file_numbers.specs.Numbers.{number_at}
use Rattle.certificate.specs.Views.{entry_place, places_of, actions_in, action_in, step_read}
use Rattle.certificate.specs.Index.{capped, state_place, action_place, Table}
use Rattle.meaning.proofs.Reading.{file_read}
use Rattle.meaning.proofs.Places.{behind_task}
use Rattle.certificate.proofs.EntryLaws.{StateSetStands, ActionSetStands}
use Rattle.certificate.proofs.SectionLaws.{place_le, place_before, Parts, file_parts}

-- the numbers of a file's outline are small, and its places lie within the file, in their order
pub record PlacesFit (bytes : List ℕ) (at : Places) : Type 0 where
  pub short : length bytes ≤ 65536
  pub some_facts : 1 ≤ at.ends.facts
  pub few_facts : at.ends.facts ≤ 64
  pub few_actions : at.actions ≤ 256
  pub few_action_sets : at.action_sets ≤ 256
  pub few_state_sets : at.state_sets ≤ 512
  pub some_steps : 1 ≤ at.steps
  pub few_steps : at.steps ≤ 2048
  pub after_actions_lem : 26 ≤ at.action_sets_at
  pub after_action_sets : at.action_sets_at + 2 ≤ at.state_sets_at
  pub after_state_sets : at.state_sets_at + 2 ≤ at.steps_at
  pub after_steps : at.steps_at + 12 * at.steps ≡ length bytes

module _ (bytes : List ℕ) (f : File) (r : read_file bytes ≡ found f) where
  parts : Parts bytes f
  parts = file_parts bytes f r

  pub places_fit : PlacesFit bytes (places_of bytes f)
  unfolding places_of ends_of
  places_fit =
      let p = parts in
      let h = file_read bytes f r in
      let a : ℕ = after_actions f.version (length f.task.actions) + 2 in
      let s : ℕ = entry_place bytes a (length f.action_sets) + 2 in
      let u = place_le bytes a (length f.action_sets) in
      let v = place_le bytes s (length f.state_sets) in
      record {
        short = p.short;
        some_facts = h.task.some_facts;
        few_facts = h.task.few_facts;
        few_actions = h.task.few_actions;
        few_action_sets = h.few_action_sets;
        few_state_sets = h.few_state_sets;
        some_steps = h.some_steps;
        few_steps = h.few_steps;
        after_actions_lem = (let o = behind_task f.version (length f.task.actions) in omega arith);
        after_action_sets = omega arith;
        after_state_sets = omega arith;
        after_steps = sym p.end;
      }

  -- state set e stands at its place, with the view and the items of what was read
  pub state_set_at_lem : (e : ℕ) → e < length f.state_sets
      → StateSetStands bytes (entry_place bytes (places_of bytes f).state_sets_at e) (state_set_at f e)
  unfolding state_set_at
  state_set_at_lem e l = parts.state_sets.here (basic empty) e l

  pub action_set_at_lem : (e : ℕ) → e < length f.action_sets
      → ActionSetStands bytes (entry_place bytes (places_of bytes f).action_sets_at e) (action_set_at f e)
  unfolding action_set_at
  action_set_at_lem e l = parts.action_sets.here all e l

  -- action i is the one that stands so many bytes for each before it behind the count
  pub action_at_lem : (i : ℕ) → i < length f.task.actions
      → action_in bytes (actions_in f).size ((actions_in f).at + (actions_in f).size * i) ≡ action_at f.task i
  unfolding action_at actions_in
  action_at_lem i l = parts.actions.here _ i l

  pub version_at : number_at 1 bytes 4 ≡ f.version
  version_at = parts.version

  pub action_count_at_lem : number_at 2 bytes (action_count_at f.version) ≡ length f.task.actions
  action_count_at_lem = parts.action_count

  -- step k is what stands at its place
  pub step_at_lem : (k : ℕ) → k < length f.steps → step_read bytes ((places_of bytes f).steps_at + 12 * k) ≡ step_at f k
  unfolding step_at
  step_at_lem k l = parts.steps.here (record { rule = 0; kind = 0; left = 0; right = 0; premises = [] }) k l

  -- ---- the same by the table of places

  module _ (index : List ℕ) (t : Table bytes (places_of bytes f) index) where
    -- a place that is within the file is in the table as it is
    kept : (p x i : ℕ) → x ≡ capped p → p + 3 + i ≤ length bytes → x ≡ p
    kept p x i e l = let s = parts.short in omega arith

    pub indexed_place : (e : ℕ) → e < length f.state_sets → state_place index e ≡ entry_place bytes (places_of bytes f).state_sets_at e
    unfolding places_of
    indexed_place e l = kept _ _ _ (t.state_sets e l) (state_set_at_lem e l).inside

    -- entries stand after the task, so that no place of one is 0, and before the steps
    pub indexed_state_set : (e : ℕ) → e < length f.state_sets
        → StateSetStands bytes (state_place index e) (state_set_at f e) × (1 ≤ state_place index e) × (state_place index e + 7 ≤ length bytes)
    unfolding places_of
    indexed_state_set e l =
        let s = state_set_at_lem e l in
        let k = indexed_place e l in
        let n = places_fit in
        let low = place_le bytes (places_of bytes f).state_sets_at e in
        let high = place_before bytes (places_of bytes f).state_sets_at e (length f.state_sets) l in (
          subst (λ (q : ℕ). StateSetStands bytes q (state_set_at f e)) (sym k) s,
          omega (arith, n.after_actions_lem, n.after_action_sets),
          omega (arith, n.after_steps, n.some_steps),
        )

    pub indexed_action_set : (e : ℕ) → e < length f.action_sets
        → ActionSetStands bytes (action_place index e) (action_set_at f e) × (1 ≤ action_place index e)
        × (action_place index e + 7 ≤ length bytes)
    unfolding places_of
    indexed_action_set e l =
        let s = action_set_at_lem e l in
        let k = kept _ _ _ (t.action_sets e l) s.inside in
        let n = places_fit in
        let low = place_le bytes (places_of bytes f).action_sets_at e in
        let high = place_before bytes (places_of bytes f).action_sets_at e (length f.action_sets) l in (
          subst (λ (q : ℕ). ActionSetStands bytes q (action_set_at f e)) (sym k) s,
          omega (arith, n.after_actions_lem),
          omega (arith, n.after_steps, n.some_steps, n.after_state_sets),
        )
