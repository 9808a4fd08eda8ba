-- What is left where a finished output was judged: the line of the verdict. No heap is run, so nothing is seen and there is no space.
use Rattle.std.specs.Prelude.{◌≡◌, ℕ, List, [], ◌++◌, codes, decimal}
use Rattle.lxr_case.specs.declared.Case.{Case}
use Rattle.lxr_case.specs.declared.Terms.{Terms}
use Rattle.lxr_judge.specs.Verdicts.{IsVerdict}
use Rattle.lxr_judge.specs.declared.verdict.Verdict.{Verdict}
use Rattle.lxr_judge.specs.declared.verdict.Verdict.TheVariants as verdict
use Rattle.lxr_words.specs.declared.Options.{Options}
use Rattle.lxr_run.specs.Runs.{IsPartlyWritten, IsWritten, Run}
use Rattle.lxr_run.specs.Script.{WasAskedToJudge}

-- the numbers that an output is judged by
abbrev pub terms_of : Options → Terms
terms_of options = record {
  blocks = options.blocks;
  every = options.every;
  log = options.log;
  trace = options.trace;
  within = options.within;
  counts = options.counts;
}

-- the line of a verdict
abbrev pub verdict_text : Verdict → List ℕ
verdict_text verdict.Yes = codes "yes\n"
verdict_text (verdict.No n) = (codes "no " ++ decimal n) ++ codes "\n"

-- this is the verdict on a case under terms, and there is no other
pub record IsTheVerdict (case : Case) (terms : Terms) (v : Verdict) : Type 0 where
  pub is : IsVerdict case terms v
  pub alone : (other : Verdict) → IsVerdict case terms other → other ≡ v

-- A case was judged: the line of its verdict was written.
pub record IsJudged {I O W : Type 0} (run : Run I O W) : Type 0 where
  pub options : Options
  pub case : Case
  pub verdict : Verdict
  pub asked : WasAskedToJudge run.words run.input options case
  pub judged : IsTheVerdict case (terms_of options) verdict
  pub text : IsWritten run.output (verdict_text verdict)
  pub unseen : run.watch.after ≡ run.watch.before
  pub space : run.space.words ≡ []

-- A case was judged, and a prefix of the line of its verdict was written.
pub record IsPartlyJudged {I O W : Type 0} (run : Run I O W) : Type 0 where
  pub options : Options
  pub case : Case
  pub verdict : Verdict
  pub asked : WasAskedToJudge run.words run.input options case
  pub judged : IsTheVerdict case (terms_of options) verdict
  pub text_front : IsPartlyWritten run.output (verdict_text verdict)
  pub unseen : run.watch.after ≡ run.watch.before
  pub space : run.space.words ≡ []
