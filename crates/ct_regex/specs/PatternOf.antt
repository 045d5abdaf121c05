-- The pattern of a matcher.
use Rattle.ct_regex.specs.declared.pattern.Regex.{Regex}
use Rattle.ct_regex.specs.declared.matcher.Matcher.{Matcher}

-- the pattern that a matcher tries on texts
abbrev pub pattern_of : Matcher → Regex
pattern_of matcher = matcher.regex.now
