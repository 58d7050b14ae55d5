-- `lookup::actions`: the version says where the count stands and how long an action is, and the actions stand behind the count.
-- Assumes nothing.
use mathlib.Core.Path.{◌≡◌, ap, ◌∙◌}
use Prim.Native.Nat.{◌+◌}
use native.Mathlib.Omega.{arith}
use Rattle.file_numbers.specs.Numbers.{number_at}
use Rattle.meaning.specs.Layout.{action_count_at, action_size}
use Rattle.meaning.proofs.Places.{places}
use Rattle.certificate.proofs.KnownLaws.{read_version, read_actions}
use Rattle.lookup.proofs.actions.Goals as goal

pub overflow_add-result : goal.overflow_add-result
overflow_add-result c = let o = places c.byte_at-version.result in record { fits = omega (arith, c.action_count_at-at.ensures) }

pub returns : goal.returns
returns c =
    let v = c.byte_at-version.ensures ∙ read_version _ c.requires in
    let p = c.action_count_at-at in
    let at : p.result ≡ action_count_at _ = p.ensures ∙ ap action_count_at v in
    let size = c.action_size.ensures ∙ ap action_size v in
    let n = c.u16_at.ensures ∙ ap (number_at 2 _) at in
    (λ i. record { at = at i + 2; size = size i; count = n i }) ∙ read_actions _ c.requires
