-- A refusal and an acceptance as text: 01's line without its newline.
use Rattle.std.specs.Prelude.{ℕ, List, ◌++◌, codes, decimal}
use Rattle.patterns.specs.Reason.{Reason}
use Rattle.answers.specs.declared.Acceptance.{Acceptance}
use Rattle.answers.specs.declared.Refusal.{Refusal}
use Rattle.answers.specs.Carried.{carried}
use Rattle.answers.specs.Numbers.{w_of}

-- 01: "`refuse` number W A B", "in decimal with single spaces"
abbrev pub reason_text : Reason → List ℕ
reason_text r =
    codes "refuse " ++ (decimal r.number ++ (codes " " ++ (decimal r.w ++ (codes " " ++ (decimal r.a ++ (codes " " ++ decimal r.b))))))

-- A and B are what the number carries
abbrev pub refusal_text : Refusal → List ℕ
refusal_text r = reason_text (carried r.number (w_of r.w) r.a r.b)

-- 01: "`accept` line k α"
abbrev pub acceptance_text : Acceptance → List ℕ
acceptance_text a = codes "accept " ++ (decimal a.line ++ (codes " " ++ (decimal a.k ++ (codes " " ++ decimal a.alpha))))
