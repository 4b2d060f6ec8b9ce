-- `text_numbers::put_text` meets its contract: the middle of the slice is what was copied.
-- Assumes nothing.
use Rattle.std.proofs.Common.{◌∙◌, ◌+◌, sym, arith, length, take, drop}
use Rattle.std.proofs.lemmas.List.{append_assoc}
use Rattle.std.proofs.lemmas.List.Edits.{sets-eq, paste_all}
use Rattle.std.proofs.lemmas.Slice.{put_mid-paste}
use Rattle.text_numbers.proofs.put_text.Goals as goal

pub returns-clause-text : goal.returns-clause-text
returns-clause-text c =
    let a = c.args in
    let out = a.out.now in
    let s = a.s.now in
    put_mid-paste a.at _ out _ s (length s) c.copy_from_slice.ensures.after (omega arith) (omega arith)
    ∙ paste_all out a.at s (length s) (omega arith)
    ∙ sym (sets-eq s out a.at c.requires ∙ append_assoc (take a.at out) s (drop (a.at + length s) out))
