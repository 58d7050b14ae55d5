-- The rows of a file's explicit sets, put into the table one set after the other.
-- Assumes nothing.
use mathlib.Core.Path.{◌≡◌, refl, ap, sym, subst, ◌∙◌}
use mathlib.Core.Logic.{◌↔◌, ◌⊎◌, inl, inr}
use Prim.Native.Nat.{ℕ, zero, suc, ◌+◌, ◌-◌, ◌*◌, ◌/◌, ◌≤◌, ◌<◌}
use native.Mathlib.Nat.{le_trans}
use native.Mathlib.Omega.{arith}
use native.Mathlib.Decide.{dec_lt}
use mathlib.Core.Bool.{false}
use mathlib.Core.List.{List}
use lib.ListN.{length, get_or, set, length-set}
use lib.Seq.{get_or-set_same, get_or-set_other}
use lib.Dec.{T}
use Rattle.file_numbers.specs.Numbers.{number_at}
use Rattle.meaning.specs.Result.{found}
use Rattle.meaning.specs.File.{File}
use Rattle.meaning.specs.Layout.{read_file}
use Rattle.meaning.proofs.Order.{all_anywhere}
use Rattle.sorting.specs.Rows.{state_at, Ascends, row, Room, Ordered, Kept}
use Rattle.certificate.specs.declared.Places.{Places}
use Rattle.certificate.specs.declared.Span.{Span}
use Rattle.certificate.specs.declared.BasicEntry.TheVariants.{Empty}
use Rattle.certificate.specs.declared.StateEntry.{StateEntry}
use Rattle.certificate.specs.declared.StateEntry.TheVariants.{Basic}
use Rattle.certificate.specs.declared.views.Head.{Head}
use Rattle.certificate.specs.Views.{head_at, span_of, state_table, state_of, state_entry_at, after_entry, entry_place, places_of}
use Rattle.certificate.specs.Index.{Indexed, state_place, action_place, Table}
use Rattle.certificate.specs.Rows.{listed_by, states_of, first_row, InOrder, states_at, Tabled, AllAscend, WithRows}
use Rattle.certificate.specs.Known.{decoded, Placed, Known}
use Rattle.certificate.proofs.IndexLaws.{in_part, past_part, indexed_file}
use Rattle.certificate.proofs.ViewLaws.{PlacesFit, places_fit, indexed_state_set, indexed_place}
use Rattle.certificate.proofs.RowLaws.{no_rows, some_rows, as_they_stand, by_their_rows}

-- ---- the states of an entry

abbrev none : Span
none = record { at = 0; count = 0 }

-- the states that an entry lists start its body, as many as it has room for
abbrev Listed : Head → StateEntry → Type 0
Listed h y = (states_of y ≡ none) ⊎ (states_of y ≡ span_of h 8)

listed : (h : Head) → Listed h (state_of h)
unfolding state_of state_table states_of listed_by
listed h =
    let no : none ≡ none = refl in
    all_anywhere (λ _. Listed h) (Basic Empty) (state_table h)
    (inl no, (inl no, (inl no, (inr refl, (inl no, (inl no, (inl no, (inl no, (inl no, (inl no, (inl no, tt))))))))))) (λ _. inl no)
    h.kind

module _ (bytes : List ℕ) (p : ℕ) where
  abbrev states : Span
  states = states_of (state_entry_at bytes p)

  of_entry : (states ≡ none) ⊎ ((states.at ≡ p + 3) × (states.count ≡ (number_at 2 bytes p - 1) / 8))
  unfolding state_entry_at head_at span_of
  of_entry =
      elim (listed (head_at bytes p)) [
        | inl e ↦ inl e
        | inr e ↦ inr (ap (λ (x : Span). x.at) e, ap (λ (x : Span). x.count) e)
      ]

  pub states_inside : p + 3 + (number_at 2 bytes p - 1) ≤ length bytes → states.at + 8 * states.count ≤ length bytes
  states_inside l =
      elim of_entry [
        | inl e ↦ (let a = ap (λ (x : Span). x.at) e in let c = ap (λ (x : Span). x.count) e in omega arith)
        | inr (a, c) ↦ omega arith
      ]

  -- its rows start at its place or later, if there are any, and end before those of the next entry
  pub rows_start : 0 < states.count → first_row (p + 3) ≤ first_row states.at
  rows_start l =
      elim of_entry [
        | inl e ↦ (let c = ap (λ (x : Span). x.count) e in absurd (omega arith))
        | inr (a, c) ↦ omega arith
      ]

  pub rows_end : first_row states.at + states.count ≤ first_row (after_entry bytes p + 3)
  unfolding after_entry
  rows_end =
      elim of_entry [
        | inl e ↦ (let a = ap (λ (x : Span). x.at) e in let c = ap (λ (x : Span). x.count) e in omega arith)
        | inr (a, c) ↦ omega arith
      ]

after_le : (bytes : List ℕ) (p : ℕ) → p ≤ after_entry bytes p
unfolding after_entry
after_le bytes p = omega arith

-- ---- the rows of one set after the other

-- rows stay in order where others behind them change
ordered_kept : {bytes : List ℕ} {at count first from n : ℕ} {was is : List ℕ} → Ordered bytes at count was first → Kept was is from n
    → (first + count ≤ from) ⊎ (n ≡ 0) → Ordered bytes at count is first
ordered_kept {bytes} {at} {count} {first} {from} {n} {was} {is} o k d = record {
  room = record { inside = o.room.inside; fits = omega (arith, o.room.fits, k.size); small = o.room.small };
  below = λ i l. omega (arith, o.below i l, same i l);
  every = λ j l. (let w = o.every j l in (w.0, w.1, ap (state_at bytes at) (same w.0 w.1) ∙ w.2));
  ascend = λ i j l m. omega (arith, o.ascend i j l m, ap (state_at bytes at) (same i (omega arith)), ap (state_at bytes at) (same j m));
}
  where
    same : (i : ℕ) → i < count → row is first i ≡ row was first i
    same i l =
        elim d [
          | inl b ↦ k.before (first + i) (omega arith)
          | inr z ↦ elim (dec_lt (first + i) from) [
            | yes m ↦ k.before (first + i) m
            | no m ↦ k.after (first + i) (omega arith)
          ]
        ]

module _ {bytes was : List ℕ} {count : ℕ} (t : Tabled bytes was count) where
  abbrev states_of_lem : ℕ → Span
  states_of_lem e = states_at bytes was e

  -- the states of a set stand within the file, and its rows end before those of later sets
  pub set_inside : (e : ℕ) → e < count → (states_of_lem e).at + 8 * (states_of_lem e).count ≤ length bytes
  set_inside e l = states_inside bytes (get_or was (256 + e) 0) (t.inside e l)

  pub set_there : (e : ℕ) → e < count → (256 + e < length was) × (get_or was (256 + e) 0 + 7 ≤ length bytes)
  set_there e l = (omega (arith, t.few, t.size), t.head e l)

  earlier : (d e : ℕ) → d < e → e < count → first_row (states_of_lem d).at + (states_of_lem d).count ≤ first_row (get_or was (256 + e) 0 + 3)
  earlier d zero l m = absurd (omega arith)
  earlier d (suc e) l m =
      let n = t.next e m in
      elim (dec_lt d e) [
        | yes k ↦
            let a = earlier d e k (omega arith) in
            let b = after_le bytes (get_or was (256 + e) 0) in
            omega arith
        | no k ↦
            let q : d ≡ e = omega arith in
            let r = subst
            (λ (c : ℕ). first_row (states_of_lem c).at + (states_of_lem c).count ≤ first_row (after_entry bytes (get_or was (256 + e) 0) + 3))
            (sym q) (rows_end bytes (get_or was (256 + e) 0)) in
            omega arith
      ]

  pub rows_none : WithRows bytes 0 was was
  rows_none = record { size = refl; places = λ j l. refl; mark = refl; ordered = λ e l. absurd (omega arith) }

  module _ {is : List ℕ} {e : ℕ} (w : WithRows bytes e was is) (l : e < count) where
    -- the place of set e is still in the table, and there is room for its rows
    pub still : get_or is (256 + e) 0 ≡ get_or was (256 + e) 0
    still = w.places (256 + e) (omega (arith, t.few))

    pub set_room : Room bytes (states_of_lem e).at (states_of_lem e).count is (first_row (states_of_lem e).at)
    set_room =
        let i = set_inside e l in
        let s = t.short in
        record { inside = i; fits = omega (arith, w.size, t.size); small = omega arith }

    pub rows_more : {new : List ℕ} → Ordered bytes (states_of_lem e).at (states_of_lem e).count new (first_row (states_of_lem e).at)
        → Kept is new (first_row (states_of_lem e).at) (states_of_lem e).count → WithRows bytes (e + 1) was new
    rows_more {new} o k =
        let i = set_inside e l in
        let s = t.short in
        record {
          size = k.size ∙ w.size;
          places = λ j m. k.before j (omega arith) ∙ w.places j m;
          mark = k.after 8960 (omega arith) ∙ w.mark;
          ordered = λ d m. elim (dec_lt d e) [
            | yes n ↦ ordered_kept (w.ordered d n) k (behind d n)
            | no n ↦
                let q : e ≡ d = omega arith in
                subst (λ (c : ℕ). Ordered bytes (states_of_lem c).at (states_of_lem c).count new (first_row (states_of_lem c).at)) q o
          ];
        }
      where
        behind : (d : ℕ) → d < e
            → (first_row (states_of_lem d).at + (states_of_lem d).count ≤ first_row (states_of_lem e).at) ⊎ ((states_of_lem e).count ≡ 0)
        behind d n =
            elim (dec_lt 0 (states_of_lem e).count) [
              | yes c ↦ inl (le_trans (earlier d e n l) (rows_start bytes (get_or was (256 + e) 0) c))
              | no c ↦ inr (omega arith)
            ]

-- ---- whether all sets ascend as they stand

module _ (bytes index : List ℕ) where
  pub up_more : {e : ℕ} {x : Span} → AllAscend bytes index e → x ≡ states_at bytes index e → Ascends bytes x.at x.count
      → AllAscend bytes index (e + 1)
  up_more {e} a q up d l =
      elim (dec_lt d e) [
        | yes m ↦ a d m
        | no m ↦
            let r : e ≡ d = omega arith in
            subst (λ (y : Span). Ascends bytes y.at y.count) (q ∙ ap (states_at bytes index) r) up
      ]

  pub up_fails : {e count : ℕ} {x : Span} → e < count → x ≡ states_at bytes index e → (Ascends bytes x.at x.count → ⊥)
      → T false ↔ AllAscend bytes index count
  up_fails {e} l q n = ((λ f. absurd f), λ a. n (subst (λ (y : Span). Ascends bytes y.at y.count) (sym q) (a e l)))

-- ---- the table of a file

place_at : (index : List ℕ) (e : ℕ) → e < 512 → state_place index e ≡ get_or index (256 + e) 0
unfolding state_place
place_at index e l = in_part 512 e (get_or index (256 + e) 0) l

module _ (bytes : List ℕ) (f : File) (r : read_file bytes ≡ found f) (index : List ℕ) (t : Table bytes (places_of bytes f) index) where
  few_sets : (places_of bytes f).state_sets ≤ 512
  few_sets = (places_fit bytes f r).few_state_sets

  pub tabled : length index ≡ 8961 → Tabled bytes index (places_of bytes f).state_sets
  unfolding places_of entry_place
  tabled size = record {
    few = few_sets;
    short = (places_fit bytes f r).short;
    size = size;
    head = λ e l. omega (arith, place e l, (indexed_state_set bytes f r index t e l).2);
    inside = λ e l.
        subst (λ (p : ℕ). p + 3 + (number_at 2 bytes p - 1) ≤ length bytes) (place e l) (indexed_state_set bytes f r index t e l).0.inside;
    next = λ e l.
        sym (place (suc e) l) ∙ indexed_place bytes f r index t (suc e) l
        ∙ ap (after_entry bytes) (sym (indexed_place bytes f r index t e (omega arith)) ∙ place e (omega arith));
  }
    where
      place : (e : ℕ) → e < (places_of bytes f).state_sets → state_place index e ≡ get_or index (256 + e) 0
      place e l = place_at index e (omega (arith, few_sets))

  -- a table with the same places
  module _ (new : List ℕ) (same : (j : ℕ) → j < 768 → get_or new j 0 ≡ get_or index j 0) where
    same_state : (e : ℕ) → state_place new e ≡ state_place index e
    unfolding state_place
    same_state e =
        elim (dec_lt e 512) [
          | yes l ↦ in_part 512 e _ l ∙ same (256 + e) (omega arith) ∙ sym (in_part 512 e _ l)
          | no l ↦ past_part 512 e _ (omega arith) ∙ sym (past_part 512 e _ (omega arith))
        ]

    same_action : (e : ℕ) → action_place new e ≡ action_place index e
    unfolding action_place
    same_action e =
        elim (dec_lt e 256) [
          | yes l ↦ in_part 256 e _ l ∙ same e (omega arith) ∙ sym (in_part 256 e _ l)
          | no l ↦ past_part 256 e _ (omega arith) ∙ sym (past_part 256 e _ (omega arith))
        ]

    pub same_table : Table bytes (places_of bytes f) new
    same_table = record {
      action_sets = λ e l. same_action e ∙ t.action_sets e l;
      state_sets = λ e l. same_state e ∙ t.state_sets e l;
      no_action_set = λ e l. same_action e ∙ t.no_action_set e l;
      no_state_set = λ e l. same_state e ∙ t.no_state_set e l;
    }

    -- a set's states, by the one table and by the other
    pub same_states : (e : ℕ) → e < (places_of bytes f).state_sets
        → states_at bytes index e ≡ states_of (state_entry_at bytes (state_place new e))
    same_states e l =
        ap (λ (p : ℕ). states_of (state_entry_at bytes p)) (sym (same_state e ∙ place_at index e (omega (arith, few_sets))))

-- the places of a checked file, put into a table of zeros, and then its rows
module _ {bytes : List ℕ} {at : Places} (k : Placed bytes at) {first second third : List ℕ} (size : length first ≡ 8961)
    (zeros : (j : ℕ) → get_or first j 0 ≡ 0) (a : Indexed bytes at.action_sets_at at.action_sets 0 first second)
    (s : Indexed bytes at.state_sets_at at.state_sets 256 second third) where
  abbrev f : File
  f = decoded bytes

  fit : PlacesFit bytes (places_of bytes (decoded bytes))
  fit = places_fit bytes (decoded bytes) k.read

  sets : at.state_sets ≡ (places_of bytes (decoded bytes)).state_sets
  sets = ap (λ (q : Places). q.state_sets) k.places

  filled : Table bytes (places_of bytes (decoded bytes)) third
  filled =
      let n = subst (PlacesFit bytes) (sym k.places) fit in
      subst (λ (q : Places). Table bytes q third) k.places
      (indexed_file bytes at first second third size zeros n.few_action_sets n.few_state_sets a s)

  pub to_order : Tabled bytes third at.state_sets
  to_order =
      subst (Tabled bytes third) (sym sets) (tabled bytes f k.read third filled (s.size ∙ a.size ∙ size))

  -- the sets ascend as they stand
  pub known_ascending : AllAscend bytes third at.state_sets → Known bytes third
  unfolding places_of
  known_ascending up =
      let n = subst (PlacesFit bytes) (sym k.places) fit in
      let mark = s.above 8960 (omega (arith, n.few_state_sets)) ∙ a.above 8960 (omega (arith, n.few_action_sets)) ∙ zeros 8960 in
      record {
        read = k.read;
        table = filled;
        ordered = λ e l.
            let m : e < at.state_sets = omega (arith, sets) in
            subst (InOrder bytes third) (same_states bytes f k.read third filled third (λ _ _. refl) e l)
            (as_they_stand fit.short (set_inside to_order e m) (no_rows third mark) (up e m));
      }

  -- their rows are put into the table, with its mark
  module _ {marked : List ℕ} (mark : marked ≡ set third 8960 1) where
    still_there : (j : ℕ) → j < 768 → get_or marked j 0 ≡ get_or third j 0
    still_there j l = ap (λ (ys : List ℕ). get_or ys j 0) mark ∙ get_or-set_other third 8960 j 1 0 (λ e. omega arith)

    pub marked_size : length marked ≡ length first
    marked_size = ap length mark ∙ length-set third 8960 1 ∙ s.size ∙ a.size

    pub to_order_marked : Tabled bytes marked at.state_sets
    to_order_marked =
        subst (Tabled bytes marked) (sym sets)
        (tabled bytes f k.read marked (same_table bytes f k.read third filled marked still_there)
        (marked_size ∙ size))

    pub known_rows : {new : List ℕ} → WithRows bytes at.state_sets marked new → Known bytes new
    unfolding places_of
    known_rows {new} w =
        let room : 8960 < length third = omega (arith, s.size, a.size, size) in
        let one = w.mark ∙ ap (λ (ys : List ℕ). get_or ys 8960 0) mark ∙ get_or-set_same third 8960 1 0 room in
        let table = same_table bytes f k.read third filled marked still_there in
        record {
          read = k.read;
          table = same_table bytes f k.read marked table new w.places;
          ordered = λ e l.
              subst (InOrder bytes new) (same_states bytes f k.read marked table new w.places e l)
              (by_their_rows fit.short (some_rows new one) (w.ordered e (omega (arith, sets))));
        }
