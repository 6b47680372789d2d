use Rattle.std.proofs.Common.{◌≡◌, ◌∙◌, refl, sym, arith}
use Rattle.std.proofs.lemmas.Result.{err_from_is_err_and}
use Rattle.tape.specs.TapeFile.{header_in, entries_in}
use Rattle.tape.proofs.Files.{IsFile, tape_in, file_from_none, known_rules, count_read, tape_in-text, is_cause, no_text}
use Rattle.tape.proofs.reading.read_tape.Goals as goal

pub returns-in_err-header-clause-cause : goal.returns-in_err-header-clause-cause
returns-in_err-header-clause-cause c =
    let p = err_from_is_err_and c.from_residual.result c.from_residual.ensures.1 in
    rw (p.1, p.2) (is_cause c.args.bytes.now c.in_err-header.field-0.0 c.in_err-header.ensures.fault)

pub returns-in_err-header-clause-again : goal.returns-in_err-header-clause-again
returns-in_err-header-clause-again c = λ seed pages rules entries fits e. absurd (no_text c.args.bytes.now c.in_err-header.field-0.0 seed pages rules entries c.in_err-header.ensures.fault fits e)

pub with_room-requires : goal.with_room-requires
with_room-requires c = known_rules c.args.bytes.now c.in_ok-header.header (λ i. omega (arith, c.type_inv.bytes i)) c.in_ok-header.ensures.sound c.in_ok-header.ensures.header

pub fill-requires-clause-room : goal.fill-requires-clause-room
fill-requires-clause-room c =
    let count = count_read c.args.bytes.now c.in_ok-header.header (λ i. omega (arith, c.type_inv.bytes i)) c.in_ok-header.ensures.sound c.in_ok-header.ensures.header in
    rw c.in_ok-tape.ensures (omega (arith, count))

-- what the bytes are
file : (c : goal.After-fill) → IsFile c.args.bytes.now (header_in c.args.bytes.now) (entries_in c.args.bytes.now)
file c = file_from_none c.args.bytes.now (λ i. omega (arith, c.type_inv.bytes i)) c.in_ok-header.ensures.sound

-- what was read is what stands in them
stands : (c : goal.After-fill) → c.fill.new.tape ≡ tape_in c.args.bytes.now
stands c = rw (c.fill.ensures, c.in_ok-tape.ensures, c.in_ok-header.ensures.header) refl

pub returns-clause-text : goal.returns-clause-text
returns-clause-text c = rw (stands c) (file c).text

pub returns-clause-fits : goal.returns-clause-fits
returns-clause-fits c = rw (stands c) (file c).fits

pub returns-clause-room : goal.returns-clause-room
returns-clause-room c = rw (stands c) (sym (file c).count)

pub returns-clause-again : goal.returns-clause-again
returns-clause-again c = λ seed pages rules entries fits e. stands c ∙ tape_in-text c.args.bytes.now seed pages rules entries fits e
