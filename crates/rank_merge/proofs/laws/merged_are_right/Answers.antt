use Rattle.rank_merge.proofs.MeasuredPapers.{merged_measured}
use Rattle.rank_merge.proofs.MergedTexts.{Known, merged_right, right_merged}
use Rattle.rank_merge.proofs.laws.merged_are_right.Goals as goal

-- by what is known of texts that are read, of heads and of files in parts
pub returns : goal.returns
returns c =
    let known : Known = record {
      dataset = c.data_are_right.ensures.held;
      certificates = c.certificates_are_read.ensures.read;
      right_certificates = c.certificates_are_read.ensures.right;
      reports = c.reports_are_read.ensures.read;
      right_reports = c.reports_are_read.ensures.right;
      heads = c.heads_are_right.ensures.right;
    } in
    record {
      right = merged_right known c.files_in_parts.ensures.cut;
      measured = merged_measured known c.files_in_parts.ensures.cut c.files_in_parts.ensures.morsels;
      merged = right_merged known;
    }
