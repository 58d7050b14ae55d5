-- What the layout check's outcome tells: what is known of a lawful file, and how a refused one is read.
-- Assumes nothing.
use mathlib.Core.Path.{◌≡◌, refl, sym, ap, ◌∙◌}
use Prim.Native.Nat.{ℕ}
use native.Mathlib.Omega.{arith}
use mathlib.Core.List.{List}
use Rattle.std.specs.declared.result.Result as result
use Rattle.std.specs.declared.result.Result.TheVariants.{Ok, Err}
use Rattle.meaning.specs.declared.Fault.{Fault}
use Rattle.meaning.specs.Result.{Result, refuse, found}
use Rattle.meaning.specs.File.{File}
use Rattle.meaning.specs.declared.Limits.{Limits}
use Rattle.meaning.specs.Limits.{full}
use Rattle.meaning.specs.Layout.{read_within, read_file}
use Rattle.meaning.specs.Told.{told}
use Rattle.meaning.proofs.Breaches.{read_full}
use Rattle.certificate.specs.declared.Places.{Places}
use Rattle.certificate.specs.Views.{places_of, outline_of}
use Rattle.certificate.specs.Known.{decoded, read_or, Placed}

module _ (l : Limits) (bytes : List ℕ) {o : result.Result Places Fault} (e : o ≡ outline_of l bytes) where
  -- a lawful file is read by these limits, and by document 01's
  lawful : (at : Places) → o ≡ Ok at → Placed bytes at × (read_within l bytes ≡ found (decoded bytes))
  unfolding outline_of decoded read_or
  lawful at g = go (read_within l bytes) refl
    where
      go : (x : Result File) → read_within l bytes ≡ x → Placed bytes at × (read_within l bytes ≡ found (decoded bytes))
      go (refuse r p) h =
          let z : Ok at ≡ told (places_of bytes) (refuse r p) = sym g ∙ e ∙ ap (told (places_of bytes)) h in
          let y : ◌≡◌ {A = ℕ} 0 1 = cc in absurd (omega arith)
      go (found f) h =
          let z : Ok at ≡ told (places_of bytes) (found f) = sym g ∙ e ∙ ap (told (places_of bytes)) h in
          let r : read_file bytes ≡ found f = read_full l bytes f h in
          let d : f ≡ decoded bytes = sym (ap read_or r) in (
            record { read = r ∙ ap found d; places = (let y : at ≡ places_of bytes f = cc in y) ∙ ap (places_of bytes) d },
            h ∙ ap found d,
          )

  pub lawful_placed : (at : Places) → o ≡ Ok at → Placed bytes at
  lawful_placed at g = (lawful at g).0

  pub lawful_read : (at : Places) → o ≡ Ok at → read_within l bytes ≡ found (decoded bytes)
  lawful_read at g = (lawful at g).1

  pub refused_read : (fault : Fault) → o ≡ Err fault → read_within l bytes ≡ refuse fault.number fault.place
  unfolding outline_of
  refused_read fault g = go (read_within l bytes) refl
    where
      go : (x : Result File) → read_within l bytes ≡ x → read_within l bytes ≡ refuse fault.number fault.place
      go (refuse r p) h =
          let z : Err fault ≡ told (places_of bytes) (refuse r p) = sym g ∙ e ∙ ap (told (places_of bytes)) h in
          let y : record { number = r; place = p } ≡ fault = cc in
          h ∙ ap (λ (f : Fault). refuse f.number f.place) y
      go (found f) h =
          let z : Err fault ≡ told (places_of bytes) (found f) = sym g ∙ e ∙ ap (told (places_of bytes)) h in
          let y : ◌≡◌ {A = ℕ} 0 1 = cc in absurd (omega arith)

  -- with document 01's limits
  pub refused_full : l ≡ full → (fault : Fault) → o ≡ Err fault → read_file bytes ≡ refuse fault.number fault.place
  unfolding read_file
  refused_full q fault g = ap (λ (k : Limits). read_within k bytes) (sym q) ∙ refused_read fault g
