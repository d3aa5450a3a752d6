use Rattle.std.proofs.Common.{rules, ◌∙◌, List, length, map, ap}
use Rattle.std.proofs.lemmas.List.Sorted.{answers_always}
use Rattle.ghcn_series.specs.Says.{in_64_bits}
use Rattle.rank_scores.specs.Morsels.{admitted_series}
use Rattle.rank_scores.specs.declared.candidate.Candidate.{Candidate}
use Rattle.rank_scores.proofs.QueryMorsels.{asked_alone}
use Rattle.rank_check.specs.Survey.{met}
use Rattle.ghcn_files.proofs.IdOrder.{strictly, strictly_ranks}
use Rattle.rank_check.proofs.SortedTops.{id_of, sorted_tops}
use Rattle.rank_check.proofs.survey.by_id.Goals as goal

-- what was found of all morsels says all that there is to say
pub returns : goal.returns
returns c = λ q dataset rows contents found.
    let cs = asked_alone q (admitted_series q dataset) in
    let up = c.in_ok-sort_by.ensures.sorted (strictly id_of) (strictly_ranks id_of)
    (answers_always _ _ _ (λ f a r g called. search rules)) in
    record {
      watched = found.watched ∙ ap (λ (ds : List Candidate). map (met ds) rows) cs;
      count = found.count ∙ ap (λ (ds : List Candidate). in_64_bits (length ds)) cs;
      tops = sorted_tops q dataset c.args.found.tops.items c.sort_by.new.self.items contents found.tops
          c.sort_by.ensures.permutation up;
    }
