-- What an entry says, test by test.
-- Assumes nothing.
use mathlib.Core.Path.{◌≡◌, sym, ap, ◌∙◌}
use mathlib.Core.Option.{Option, none, some}
use Prim.Native.Nat.{ℕ, ◌+◌, ◌-◌, ◌≤◌, ◌<◌}
use native.Mathlib.Omega.{arith}
use mathlib.Core.Bool.{Bool, true, false}
use mathlib.Core.List.{List}
use lib.ListN.{length, take, drop, get_elem?}
use borrow.Author.Tests.{le-leb, lt-leb}
use Rattle.bodies.specs.declared.Form.{Form}
use Rattle.std.specs.declared.option.Option as code
use Rattle.std.specs.declared.option.Option.TheVariants.{Some, None}
use Rattle.meaning.specs.Result.{Result, refuse, found, ◌>>=◌, need, known}
use Rattle.meaning.specs.Bytes.{number, inside}
use Rattle.file_numbers.specs.Numbers.{number_at}
use Rattle.meaning.specs.Layout.{Kind, field, entry}
use Rattle.bodies.specs.Faults.{Answer, fault, fault_from, form_fits, form_allows, form_body}
use Rattle.entries.specs.Forms.{form_at}
use Rattle.file_numbers.proofs.ByteLaws.{inside_out, number_in}
use Rattle.bodies.proofs.Faults.{At, forget, told_alike, told_refused, goes_on, stops, passed, failed}
use Rattle.bodies.proofs.FieldLaws.{field_in}
use Rattle.entries.proofs.FormLaws.{Same, Alike, no_kind, kind_of_lem}
use Rattle.entries.proofs.SliceLaws.{part_length, part_says}

no_known : {A B : Type 0} {o : Option A} (n p : ℕ) (g : A → Result B) → o ≡ none → (known o n p >>= g) ≡ refuse n p
unfolding known ◌>>=◌
no_known n p g e = ap (λ o. known o n p >>= g) e

is_known : {A B : Type 0} {o : Option A} {a : A} (n p : ℕ) (g : A → Result B) → o ≡ some a → (known o n p >>= g) ≡ g a
unfolding known ◌>>=◌
is_known n p g e = ap (λ o. known o n p >>= g) e

-- the entry's length was read, and the entry lies in the file
pub record Begun (bytes : List ℕ) (p len : ℕ) : Type 0 where
  pub read : field bytes 2 p ≡ found len
  pub whole : inside (2 + len) bytes p ≡ true

-- and its kind is known
pub record Kinded (bytes : List ℕ) (forms : List Form) (p len : ℕ) (f : Form) : Type 0 where
  pub some_bytes : 1 ≤ len
  pub kind : form_at forms (number 1 bytes (p + 2)) ≡ Some f

len_read : (bytes : List ℕ) (p : ℕ) {t : Bool} → t ≡ inside 2 bytes p → t ≡ true → {len : ℕ} → len ≡ number_at 2 bytes p
    → field bytes 2 p ≡ found len
len_read bytes p {t} q s e = field_in bytes p 2 (inside_out 2 bytes p (sym q ∙ s)) e

pub begun : (bytes : List ℕ) (p : ℕ) {t : Bool} → t ≡ inside 2 bytes p → t ≡ true → {len : ℕ} → len ≡ number_at 2 bytes p
    → {u : Bool} → u ≡ inside (2 + len) bytes p → u ≡ true → Begun bytes p len
begun bytes p q s e {u} q' s' = record { read = len_read bytes p q s e; whole = sym q' ∙ s' }

pub entry_ends : {bytes : List ℕ} {p len : ℕ} → Begun bytes p len → p + (2 + len) ≤ length bytes
entry_ends {bytes} {p} {len} b = inside_out (2 + len) bytes p b.whole

kind_read : {bytes : List ℕ} {p len : ℕ} → Begun bytes p len → (forms : List Form) → 1 ≤ len → {k : ℕ} → k ≡ number_at 1 bytes (p + 2)
    → {o : code.Option Form} → o ≡ form_at forms k → form_at forms (number 1 bytes (p + 2)) ≡ o
kind_read {bytes} {p} b forms l e eo =
    ap (form_at forms) (sym (e ∙ number_in 1 bytes (p + 2) (let h = entry_ends b in omega arith))) ∙ sym eo

pub kinded : {bytes : List ℕ} {p len : ℕ} → Begun bytes p len → (forms : List Form) → 1 ≤ len → {k : ℕ} → k ≡ number_at 1 bytes (p + 2)
    → {o : code.Option Form} → o ≡ form_at forms k → {f : Form} → o ≡ Some f → Kinded bytes forms p len f
kinded b forms l e eo is = record { some_bytes = l; kind = kind_read b forms l e eo ∙ is }

module _ (bytes : List ℕ) {A : Type 0} (kinds : List (Kind A)) (forms : List Form) (alike : Alike bytes kinds forms)
    (p : ℕ) where
  refused : {r q : ℕ} → entry bytes kinds p ≡ refuse r q → At r q ≡ fault (entry bytes kinds p)
  refused e = told_refused (entry bytes kinds p) _ _ (ap forget e)

  module _ {t : Bool} (q : t ≡ inside 2 bytes p) where
    pub entry_cut : t ≡ false → At 3 p ≡ fault (entry bytes kinds p)
    unfolding entry field
    entry_cut s = refused (stops _ (failed 3 p _ (sym q ∙ s)))

    pub entry_past : t ≡ true → {len : ℕ} → len ≡ number_at 2 bytes p → {u : Bool} → u ≡ inside (2 + len) bytes p → u ≡ false
        → At 3 p ≡ fault (entry bytes kinds p)
    unfolding entry
    entry_past s e {u} q' s' = refused (goes_on _ (len_read bytes p q s e) ∙ failed 3 p _ (sym q' ∙ s'))

  module _ {len : ℕ} (b : Begun bytes p len) where
    pub entry_none : len < 1 → At 4 p ≡ fault (entry bytes kinds p)
    unfolding entry
    entry_none l = refused (goes_on _ b.read ∙ passed 3 p _ b.whole ∙ failed 4 p _ (lt-leb 1 len l))

    pub entry_unknown : 1 ≤ len → {k : ℕ} → k ≡ number_at 1 bytes (p + 2) → {o : code.Option Form} → o ≡ form_at forms k → o ≡ None
        → At 4 (p + 2) ≡ fault (entry bytes kinds p)
    unfolding entry
    entry_unknown l e eo is =
        refused
        (goes_on _ b.read ∙ passed 3 p _ b.whole ∙ passed 4 p _ (le-leb 1 len l)
        ∙ no_known 4 (p + 2) _ (no_kind bytes kinds forms alike (number 1 bytes (p + 2)) (kind_read b forms l e eo ∙ is)))

    module _ {f : Form} (k : Kinded bytes forms p len f) {w : Bool} (qw : w ≡ form_fits f (len - 1)) where
      the_kind : (k : Kind A) × (get_elem? kinds (number 1 bytes (p + 2)) ≡ some k) × Same bytes k f
      the_kind = kind_of_lem bytes kinds forms alike (number 1 bytes (p + 2)) k.kind

      fits_same : the_kind.0.fits (len - 1) ≡ w
      fits_same = the_kind.2.fits (len - 1) ∙ sym qw

      pub entry_unfit : w ≡ false → At 4 p ≡ fault (entry bytes kinds p)
      unfolding entry
      entry_unfit y =
          refused
          (goes_on _ b.read ∙ passed 3 p _ b.whole ∙ passed 4 p _ (le-leb 1 len k.some_bytes)
          ∙ is_known 4 (p + 2) _ the_kind.1 ∙ failed 4 p _ (fits_same ∙ y))

      -- it is whole, its kind is known, and its length fits: its limits and its body are left
      entry_left : w ≡ true
          → entry bytes kinds p ≡ (need (the_kind.0.allowed (len - 1)) 19 p >>= λ _. the_kind.0.body (p + 3) (len - 1))
      unfolding entry
      entry_left y =
          goes_on _ b.read ∙ passed 3 p _ b.whole ∙ passed 4 p _ (le-leb 1 len k.some_bytes)
          ∙ is_known 4 (p + 2) _ the_kind.1 ∙ passed 4 p _ (fits_same ∙ y)

      -- it lies in a file of that length, and fits its form
      pub entry_part : w ≡ true → (size most : ℕ) → size ≡ len - 1 → length bytes ≤ most
          → (p + 3 + length (take size (drop (p + 3) bytes)) ≤ most) × (form_fits f (length (take size (drop (p + 3) bytes))) ≡ true)
      entry_part y size most z m =
          let h = entry_ends b in
          let l = k.some_bytes in
          let e'' : length (take size (drop (p + 3) bytes)) ≡ size = part_length bytes (p + 3) size (omega arith) in
          (omega arith, ap (form_fits f) (e'' ∙ z) ∙ sym qw ∙ y)

      module _ {v : Bool} (qv : v ≡ form_allows f (len - 1)) where
        allows_same : the_kind.0.allowed (len - 1) ≡ v
        allows_same = the_kind.2.allows (len - 1) ∙ sym qv

        pub entry_over : w ≡ true → v ≡ false → At 19 p ≡ fault (entry bytes kinds p)
        entry_over y z = refused (entry_left y ∙ failed 19 p _ (allows_same ∙ z))

        entry_is : w ≡ true → v ≡ true → entry bytes kinds p ≡ the_kind.0.body (p + 3) (len - 1)
        entry_is y z = entry_left y ∙ passed 19 p _ (allows_same ∙ z)

        -- the body, as a part of the file from place p + 3 to the entry's end
        pub entry_body : w ≡ true → v ≡ true → (size : ℕ) → size ≡ len - 1
            → {r : Answer} → r ≡ fault_from (p + 3) (form_body (take size (drop (p + 3) bytes)) f 0 (length (take size (drop (p + 3) bytes))))
            → r ≡ fault (entry bytes kinds p)
        entry_body y x size z r =
            let h = entry_ends b in
            let l = k.some_bytes in
            r
            ∙ part_says bytes (p + 3) size (omega arith) f (ap (form_fits f) z ∙ sym qw ∙ y)
            ∙ ap (λ (j : ℕ). fault (form_body bytes f (p + 3) j)) z
            ∙ told_alike (form_body bytes f (p + 3) (len - 1)) (the_kind.0.body (p + 3) (len - 1)) (sym (the_kind.2.body (p + 3) (len - 1)))
            ∙ ap (λ x. fault x) (sym (entry_is y x))
