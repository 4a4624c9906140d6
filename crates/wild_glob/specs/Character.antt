-- The characters that have a meaning of their own in patterns.
use Rattle.std.specs.Prelude.{ℕ}

-- `*`
abbrev pub star : ℕ
star = 42

-- `?`
abbrev pub question_mark : ℕ
question_mark = 63

-- `[`
abbrev pub open_bracket : ℕ
open_bracket = 91

-- `]`
abbrev pub close_bracket : ℕ
close_bracket = 93

-- `!`
abbrev pub exclamation_mark : ℕ
exclamation_mark = 33

-- `-`
abbrev pub dash : ℕ
dash = 45

-- `\`
abbrev pub backslash : ℕ
backslash = 92
