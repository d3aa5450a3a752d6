use Rattle.std.proofs.Common.{◌≡◌, ℕ, Bool, false, not, List, [], get_or, set, refl, sym, ap, ◌∙◌, subst}
use Rattle.std.specs.Prelude.{◌||◌, ◌==◌}
use Rattle.std.proofs.lemmas.List.{get_or_default}
use Rattle.ghcn_files.specs.Elements.{element_index}
use Rattle.ghcn_description.specs.Steps.{CountsMonth}
use Rattle.ghcn_description.proofs.MonthFigures.{word-has_day}
use Rattle.ghcn_description.proofs.describer.Describer.count.Goals as goal

-- the month is counted for its station and element
pub returns : goal.returns
returns c m right of flagged =
    let items : List (List Bool) = c.args.self.now.with_days.items in
    let place : ℕ = c.args.place in
    let at : ℕ = c.place_of-at.result in
    let index : ℕ = element_index m.element in
    let bits : List Bool = get_or items place [] in
    let is_at : at ≡ index = c.place_of-at.ensures ∙ ap element_index of.element in
    let lent : c.index_mut.result.now ≡ bits =
    c.index_mut.ensures.value ∙ get_or_default items place c.index_mut.result.now [] c.requires.place in
    record {
      reader = refl;
      others = refl;
      unlisted = refl;
      with_days = ap (λ b. set items place (set b at (get_or b at false || not (c.args.row.now.word == 0)))) lent
          ∙ ap (λ k. set items place (set bits k (get_or bits k false || not (c.args.row.now.word == 0)))) is_at
          ∙ ap (λ t. set items place (set bits index (get_or bits index false || t)))
          (word-has_day m c.args.row.now right of);
      before = c.index-self-at.result;
      after = c.add.new.self;
      there = c.index-self-at.is ∙ ap (λ k. get_or c.args.self.now.elements k c.index-self-at.result) is_at;
      elements = ap (λ k. set c.args.self.now.elements k c.add.new.self) is_at;
      counted = subst (λ e. CountsMonth e c.add.new.self m) (sym c.index-self-at.is)
          (c.in_ok-add.ensures m right of flagged);
    }
