use Rattle.std.proofs.Common.{◌≡◌, ◌+◌, ◌++◌, ◌∷◌, [], List, map, take, length, sym, ap, ◌∙◌}
use Rattle.std.specs.List.{flat_map}
use Rattle.ghcn_series.specs.Meaning.Series.{Series}
use Rattle.ghcn_series.specs.Says.{in_64_bits}
use Rattle.rank_scores.specs.Candidates.{candidates}
use Rattle.ghcn_files.specs.declared.station.StationId.{StationId}
use Rattle.rank_papers.specs.Papers.{candidates_of}
use Rattle.rank_check.specs.declared.survey.Top.{Top}
use Rattle.rank_check.specs.Survey.{Tally, met, top}
use Rattle.rank_check.proofs.Each.{made-more}
use Rattle.rank_check.proofs.Surveying.{tallied, scanned-more, top-behind}
use Rattle.rank_check.proofs.survey.scan_all.Goals as goal

-- one series more was scanned
pub loop-series-preserved : goal.loop-series-preserved
loop-series-preserved c =
    let q = c.args.query.now in
    let rows = candidates_of c.args.rows.now in
    let s : Series = c.series-item.result.now in
    let before : List Series = map (λ s. s.now) (take c.loop-series.series-index c.args.all.now) in
    let more : map (λ s. s.now) (take (c.loop-series.series-index + 1) c.args.all.now) ≡ before ++ s ∷ [] =
    made-more (λ s. s.now) c.args.all.now c.loop-series.series-index c.series-item.result c.loop-series-test.true
    c.series-item.is in
    let new : c.scan-highest.new.self ≡ tallied rows (flat_map (candidates q) (before ++ s ∷ [])) (candidates q s) =
    scanned-more q rows before s c.loop-series.tally c.scan-highest.new.self c.loop-series.invariant.rows
    c.loop-series.invariant.count c.scan-highest.ensures.taken in
    let tops : c.push.new.self.items ≡ map (top q) (before ++ s ∷ []) =
    c.in_ok-push.ensures.items
    ∙ ap (λ (l : List Top). l ++ record { id = c.id.result; highest = c.scan-highest.result } ∷ [])
    c.loop-series.invariant.tops
    ∙ ap (λ (i : StationId). map (top q) before ++ record { id = i; highest = c.scan-highest.result } ∷ [])
    c.id.ensures.id
    ∙ top-behind q before s c.scan-highest.result
    (c.scan-highest.ensures.highest ∙ ap (λ (t : Tally). t.highest) new) in
    record {
      rows = ap (λ (t : Tally). t.rows) new
          ∙ ap (λ (l : List Series). map (met (flat_map (candidates q) l)) rows) (sym more);
      count = ap (λ (t : Tally). t.count) new
          ∙ ap (λ (l : List Series). in_64_bits (length (flat_map (candidates q) l))) (sym more);
      tops = tops ∙ ap (map (top q)) (sym more);
    }
