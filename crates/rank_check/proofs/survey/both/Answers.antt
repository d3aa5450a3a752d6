use Rattle.std.proofs.Common.{◌≤◌, ◌+◌, ◌++◌, ℕ, List, length, map, sym, ap, ◌∙◌, arith}
use Rattle.std.proofs.lemmas.List.{map-append, length-append}
use Rattle.ghcn_series.specs.Says.{in_64_bits}
use Rattle.rank_scores.specs.declared.candidate.Candidate.{Candidate}
use Rattle.rank_check.specs.declared.survey.Top.{Top}
use Rattle.rank_check.specs.Survey.{candidates_in, met, top}
use Rattle.rank_check.proofs.Together.{none_both, one_both, all_both, both-counts, candidates-both}
use Rattle.rank_check.proofs.survey.both.Goals as goal

-- no row has yet what is known from both
pub loop-place-init : goal.loop-place-init
loop-place-init c = none_both c.args.first.rows.items c.args.second.rows.items

-- one row more
pub loop-place-preserved : goal.loop-place-preserved
loop-place-preserved c =
    one_both c.args.first.rows.items c.args.second.rows.items c.loop-place.rows.items c.loop-place.place
    c.index_mut.result.now c.index.result.now c.add.new.self c.loop-place.invariant
    (omega (arith, c.len-place-end.ensures, c.loop-place-test.true, c.loop-place.invariant.long, c.args.first.rows.ok.0))
    c.requires c.index_mut.ensures.value c.index.ensures c.add.ensures

-- all have it, and the number and the series are those of both
pub returns : goal.returns
returns c = λ q ss us cs one two.
    let first = candidates_in q ss in
    let second = candidates_in q us in
    let end : length c.args.first.rows.items ≤ c.loop-place.place =
    omega (arith, c.len-place-end.ensures, c.loop-place-test.false, c.args.first.rows.ok.0) in
    record {
      watched = all_both first second cs c.args.first.rows.items c.args.second.rows.items c.loop-place.rows.items
          c.loop-place.place c.loop-place.invariant end one.watched two.watched
          ∙ ap (λ (l : List Candidate). map (met l) cs) (candidates-both q ss us);
      count = c.saturating_add.ensures
          ∙ ap (λ (n : ℕ). in_64_bits (n + c.args.second.count)) one.count
          ∙ ap (λ (n : ℕ). in_64_bits (in_64_bits (length first) + n)) two.count
          ∙ both-counts (length first) (length second)
          ∙ ap in_64_bits (sym (length-append first second) ∙ ap length (candidates-both q ss us));
      tops = c.in_ok-append.ensures.items ∙ ap (λ (l : List Top). l ++ c.args.second.tops.items) one.tops
          ∙ ap (λ (l : List Top). map (top q) ss ++ l) two.tops ∙ sym (map-append (top q) ss us);
    }
