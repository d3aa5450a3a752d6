use Rattle.rank_query.proofs.Cited.{◌≡◌, ℕ, ◌+◌, ◌<◌, not, List, [], length, take, drop, sym, ap, ◌∙◌, arith}
use Rattle.rank_query.proofs.Cited.{enumerate_from, nat_tests, prefix_len-le-length, is_separator}
use Rattle.rank_query.proofs.FirstWord.{first_word, no_word, after_blanks-le, words_left, longer}
use Rattle.rank_query.proofs.words.WordsIterator.next.Goals as goal

-- if nothing but blanks is left, no word is
pub returns-then-is_empty-clause-steps : goal.returns-then-is_empty-clause-steps
returns-then-is_empty-clause-steps c =
    let none : length c.without_blanks-text.result.now ≡ 0 = grind (arith, nat_tests) in
    let e : c.args.self.now ≡ [] = sym c.self.view_is ∙ ap (enumerate_from (c.self.inside.given + 1))
    (no_word c.self.inside.text.now c.without_blanks-text.result.now c.without_blanks-text.ensures none) in
    (e, e)

-- a word is no longer than its text
pub split_at-requires : goal.split_at-requires
split_at-requires c =
    omega (arith, c.word_len.ensures, prefix_len-le-length (λ b. not (is_separator b)) c.without_blanks-text.result.now)

-- each word takes a byte, so its number fits
pub invariant_of-self : goal.invariant_of-self
invariant_of-self c =
    let some : 0 < length c.without_blanks-text.result.now = grind (arith, nat_tests) in
    let first = first_word c.self.inside.text.now c.without_blanks-text.result.now c.word_len.result
    c.without_blanks-text.ensures some c.word_len.ensures in
    omega (
      arith,
      first.1,
      after_blanks-le c.self.inside.text.now,
      ap length c.without_blanks-text.ensures,
      c.split_at.ensures.back_len,
      c.self.invariant,
    )

-- the word is the first of those that were left
pub returns-clause-steps : goal.returns-clause-steps
returns-clause-steps c =
    let rest : List ℕ = c.without_blanks-text.result.now in
    let n : ℕ = c.word_len.result in
    let some : 0 < length rest = grind (arith, nat_tests) in
    let first = first_word c.self.inside.text.now rest n c.without_blanks-text.ensures some c.word_len.ensures in
    words_left c.self.inside.given c.args.self.now c.self.inside.text.now (take n rest)
    (drop n rest) _ _ c.self.view_is first.0 (sym c.split_at.ensures.front) (sym c.split_at.ensures.back)

-- and fewer are left after it
pub returns-clause-goes : goal.returns-clause-goes
returns-clause-goes c =
    let less = longer _ _ _ (returns-clause-steps c) in
    record { on = λ _. (tt, tt, less); keeps = tt; rests = λ _. tt }
