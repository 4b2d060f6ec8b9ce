-- `text_numbers::put_decimal` meets its contract: itoa's text is std's decimal, which is that of this repository.
-- Assumes nothing.
use Rattle.std.proofs.Common.{◌≡◌, ◌∙◌, ◌+◌, ◌%◌, ◌<◌, ◌^◌, ◌++◌, ◌∷◌, [], ℕ, List, ap, sym, arith}
use Rattle.std.specs.Fmt as fmt
use Rattle.std.proofs.lemmas.Fmt.{decimal_by_steps}
use Rattle.text.specs.Decimal.{decimal}
use Rattle.text.proofs.Digits.{decimal_small, decimal_more}
use Rattle.text_numbers.proofs.put_decimal.Goals as goal

same_decimal : (n : ℕ) → n < 2 ^ 64 → decimal n ≡ fmt.decimal n
same_decimal =
    decimal_by_steps (λ (n : ℕ) (ds : List ℕ). decimal n ≡ ds) decimal_small
    (λ n ds h e. decimal_more n h ∙ ap (λ (l : List ℕ). l ++ ((48 + n % 10) ∷ [])) e)

pub returns-clause-text : goal.returns-clause-text
returns-clause-text g c =
    c.put_bytes.ensures.text
    ∙ ap (λ (l : List ℕ). c.args.line.now.items ++ l)
    (c.as_bytes.ensures.value ∙ c.format.ensures.text ∙ sym (same_decimal c.args.n (omega arith)))
