use Rattle.std.proofs.Common.{◌≡◌, ◌-◌, ◌*◌, ◌/◌, map, length, string_bytes, refl, sym, ap, ◌∙◌, arith}
use Rattle.std.proofs.lemmas.List.{length-map}
use Rattle.lx_machine.specs.Stack.{stack_words}
use Rattle.lx_machine.specs.Start.{headers_of}
use Rattle.lx_start.proofs.FirstStack.{stack_is}
use Rattle.lx_start.proofs.stack.first_stack.Goals as goal

pub returns : goal.returns
returns c =
    let long : c.len.result ≡ length c.in-Ok.words.items = omega arith in
    stack_is (headers_of c.args.image.now) c.args.name.now (map string_bytes c.args.arguments.now) c.args.seed
    c.in_ok-texts.texts (length c.args.arguments.now) c.in-Ok.words.items _
    c.in_ok-texts.ensures (sym (length-map c.args.arguments.now string_bytes)) c.in-Ok.ensures
    (c.in_ok-sp.ensures.0 ∙ (λ i. (c.in_ok-texts.texts.at - 8 * long i) / 16 * 16)) c.in_ok-sp.ensures.1 (omega (arith, c.in_ok-sp.ensures.2, long))
    (c.in-Ok-bytes_of_words.ensures ∙ ap stack_words c.deref.ensures.value) refl refl
