-- Bytes by their names.
use Rattle.std.specs.Prelude.{ℕ}

abbrev pub tab : ℕ
tab = 9

abbrev pub line_feed : ℕ
line_feed = 10

abbrev pub carriage_return : ℕ
carriage_return = 13

abbrev pub blank : ℕ
blank = 32

abbrev pub bang : ℕ
bang = 33

abbrev pub quote : ℕ
quote = 34

abbrev pub dollar : ℕ
dollar = 36

abbrev pub open_paren : ℕ
open_paren = 40

abbrev pub close_paren : ℕ
close_paren = 41

abbrev pub asterisk : ℕ
asterisk = 42

abbrev pub plus : ℕ
plus = 43

abbrev pub comma : ℕ
comma = 44

abbrev pub hyphen : ℕ
hyphen = 45

abbrev pub dot : ℕ
dot = 46

abbrev pub slash : ℕ
slash = 47

abbrev pub digit_0 : ℕ
digit_0 = 48

abbrev pub colon : ℕ
colon = 58

abbrev pub less_than : ℕ
less_than = 60

abbrev pub equals : ℕ
equals = 61

abbrev pub greater : ℕ
greater = 62

abbrev pub question : ℕ
question = 63

abbrev pub at_sign : ℕ
at_sign = 64

abbrev pub open_bracket : ℕ
open_bracket = 91

abbrev pub backslash : ℕ
backslash = 92

abbrev pub close_bracket : ℕ
close_bracket = 93

abbrev pub caret : ℕ
caret = 94

abbrev pub underscore : ℕ
underscore = 95

abbrev pub letter_n : ℕ
letter_n = 110

abbrev pub letter_r : ℕ
letter_r = 114

abbrev pub letter_t : ℕ
letter_t = 116

abbrev pub letter_x : ℕ
letter_x = 120

abbrev pub open_brace : ℕ
open_brace = 123

abbrev pub bar : ℕ
bar = 124

abbrev pub close_brace : ℕ
close_brace = 125

abbrev pub tilde : ℕ
tilde = 126
