use Rattle.ct_regex.proofs.scan.Scan.restart.Goals as goal

pub returns : goal.returns
returns c = λ tree pattern. record { answers = pattern; pattern = pattern }
