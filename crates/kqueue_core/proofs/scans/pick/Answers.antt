use Rattle.std.proofs.Common.{◌≡◌, ◌<◌, ◌≤◌, ℕ, Bool, true, false, List, length, take, get_or, refl, sym, ap, ◌∙◌, arith, Option, Some, None}
use Rattle.std.specs.Prelude.{filter, slice_get, is_some, if◌then◌else◌}
use Rattle.std.specs.Option.{option_map}
use Rattle.std.proofs.lemmas.List.{take_all}
use Rattle.kqueue_core.specs.declared.knotes.Filter.{Filter}
use Rattle.kqueue_core.specs.declared.knotes.Ident.{Ident}
use Rattle.kqueue_core.specs.declared.knotes.Watch.{Watch}
use Rattle.kqueue_core.specs.Watches.{ident_of}
use Rattle.kqueue_core.specs.Reports.{is_reported, watch_bits}
use Rattle.kqueue_core.proofs.Picking.{picked, past}
use Rattle.kqueue_core.proofs.scans.pick.Goals as goal

abbrev nobody : Watch
nobody = record { file = 0; descriptor = 0; read = None; write = None }

-- bits are answered of what is reported alone
reported_then : (b : Bool) (n : ℕ) (o : Option ℕ) → o ≡ (if b then Some n else None) → is_some o ≡ true → b ≡ true
reported_then true n o e h = refl
reported_then false n o e h = let z : false ≡ true = sym (ap is_some e) ∙ h in absurd (cc)

named : {i j : Ident} → i ≡ j → Some i ≡ Some j
named e = ap {B = Option Ident} (λ i. Some i) e

pub returns-then-left-eq0 : goal.returns-then-left-eq0
returns-then-left-eq0 g c =
    let R : ℕ → Filter → ℕ = g.R.Readiness.told c.args.ready.now in
    let w = get_or c.args.watches.now c.loop-watch.watch-index nobody in
    let within : c.loop-watch.watch-index < length c.args.watches.now = c.loop-watch-test.true in
    let passes : is_reported R w ≡ true = reported_then _ (watch_bits R w) c.reported_bits.result c.reported_bits.ensures (sym c.is_some.ensures ∙ c.if-is_some.true) in
    let at : length (filter (is_reported R) (take c.loop-watch.watch-index c.args.watches.now)) ≡ c.args.at = omega arith in
    named c.ident.ensures ∙ ap (option_map ident_of) (sym (picked (is_reported R) c.args.watches.now c.loop-watch.watch-index nobody within passes)) ∙ ap (λ n. option_map ident_of (slice_get (filter (is_reported R) c.args.watches.now) n)) at

pub returns : goal.returns
returns g c =
    let R : ℕ → Filter → ℕ = g.R.Readiness.told c.args.ready.now in
    let ws = c.args.watches.now in
    let whole = take_all c.loop-watch.watch-index ws c.loop-watch-test.false in
    let few : length (filter (is_reported R) ws) ≤ c.args.at = omega (arith, ap (λ (l : List Watch). length (filter (is_reported R) l)) whole, c.loop-watch.invariant) in
    ap (option_map ident_of) (sym (past (is_reported R) (filter (is_reported R) ws) c.args.at few))
