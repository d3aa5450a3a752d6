use Rattle.std.proofs.Common.{ℕ, [], Bor, List, take, get_or, sym, subst, arith}
use Rattle.rank_input.specs.Taken.{given, HasTaken}
use Rattle.rank_input.proofs.Questions.{with_intake, file_given}
use Rattle.rank_input.proofs.Texts.{texts, texts-more, all_texts}
use Rattle.rank_input.proofs.question.Question.of_files.Goals as goal

-- a file of nothing
nothing : Bor (List ℕ)
nothing = record { ref_ptr = (0, 0); now = [] }

-- one file more is given
pub loop-file-preserved : goal.loop-file-preserved
unfolding nothing
loop-file-preserved c =
    let files = c.args.files.now in
    let given_of = given c.args.query.now c.args.stations.now in
    let text = (get_or files c.loop-file.file-index nothing).now in
    record {
      taken = subst (λ (fs : List (List ℕ)). HasTaken (with_intake c.loop-file.question c.end_of_file.new.self) (given_of fs))
          (sym (texts-more files c.loop-file.file-index nothing c.loop-file-test.true))
          (file_given c.loop-file.question c.piece.new.self c.end_of_file.new.self c.args.query.now c.args.stations.now text
          (take c.loop-file.file-index (texts files)) c.piece.ensures.taken c.end_of_file.ensures.taken
          c.loop-file.invariant.taken);
      going = c.end_of_file.ensures.going;
    }

-- all files were given
pub returns-clause-taken : goal.returns-clause-taken
returns-clause-taken c =
    let given_of = given c.args.query.now c.args.stations.now in
    subst (λ (fs : List (List ℕ)). HasTaken c.loop-file.question (given_of fs))
    (all_texts c.args.files.now c.loop-file.file-index (omega (arith, c.loop-file-test.false)))
    c.loop-file.invariant.taken
