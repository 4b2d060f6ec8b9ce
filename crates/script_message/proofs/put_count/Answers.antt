-- `script_message::put_count` meets its contract: six parts, one behind the other. Assumes nothing.
use Rattle.std.proofs.Common.{◌≡◌, ◌∙◌, ◌++◌, List, ℕ, ap}
use Rattle.std.proofs.lemmas.List.{append_assoc}
use Rattle.text.specs.Ascii.{ascii}
use Rattle.text.specs.Decimal.{decimal}
use Rattle.flaw_model.specs.Flaw.{arity}
use Rattle.flaw_model.specs.Message.{form_text}
use Rattle.script_message.proofs.put_count.Goals as goal

behind : (m xs ys : List ℕ) {n k : List ℕ} → n ≡ m ++ xs → k ≡ n ++ ys → k ≡ m ++ (xs ++ ys)
behind m xs ys p q = q ∙ ap (λ (l : List ℕ). l ++ ys) p ∙ append_assoc m xs ys

pub returns-clause-text : goal.returns-clause-text
unfolding ascii
returns-clause-text c =
    let m = c.args.message.now.items in
    let one = ascii "fields: found " in
    let two = one ++ decimal c.args.n in
    let three = two ++ ascii ", expected " in
    let four = three ++ decimal (arity c.args.b) in
    let five = four ++ ascii " as in " in
    behind m five (form_text c.args.b)
    (behind m four (ascii " as in ")
    (behind m three (decimal (arity c.args.b))
    (behind m two (ascii ", expected ") (behind m one (decimal c.args.n) c.put_bytes.ensures.text c.put_decimal.ensures.text)
    c.put_bytes-2.ensures.text) c.put_fields.ensures.text) c.put_bytes-3.ensures.text) c.put_form.ensures.text
