use Rattle.std.proofs.Common.{◌≡◌, ◌*◌, ◌/◌, length, drop, arith, rules, ap, ◌∙◌}
use Rattle.std.specs.List.{fold}
use Rattle.std.specs.Simd.{first_chunks}
use Rattle.std.proofs.lemmas.Iterator.{YieldsList-from_slice}
use Rattle.std.proofs.lemmas.Iterator.Consumers.{fold_from_yields_List}
use Rattle.octets.specs.Checks.{folded, ones_sum, word32, word_sum}
use Rattle.octets.proofs.Sums.{all_added, plus_word}
use Rattle.octets.proofs.check_of.Goals as goal

pub returns : goal.returns
returns c =
    let bs = c.args.bytes.now in
    let k = length bs / 4 in
    let fours : c.fold-sum.result ≡ fold plus_word 0 c.as_chunks.result.0.now = fold_from_yields_List _ plus_word _ _ c.fold-sum.ensures.ran (YieldsList-from_slice _ c.iter.ensures.rest) (λ sum four r f q. search rules) in
    let front : c.fold-sum.result ≡ fold plus_word 0 (first_chunks 4 k bs) = fours ∙ ap (fold plus_word 0) c.as_chunks.ensures.front in
    let last : c.add_word.result ≡ plus_word c.fold-sum.result (drop (k * 4) bs) = c.add_word.ensures ∙ ap (ones_sum c.fold-sum.result) (c.first_word.ensures ∙ ap word32 c.as_chunks.ensures.back) in
    let all = all_added k bs (omega arith) (search rules) in
    let sum : c.halves_added.result ≡ folded (word_sum bs) = c.halves_added.ensures ∙ ap folded (last ∙ ap (λ s. plus_word s (drop (k * 4) bs)) front) ∙ all in
    omega (arith, sum)
