-- The kinds of events, and what the fields of a withdrawal may hold, in numbers. Assumes nothing.
use mathlib.Core.Path.{◌≡◌, refl}
use mathlib.Core.Bool.{true, false}
use Rattle.capture_file.specs.Checks.{fields_good}

-- "kind 7, with any stream octet and A and B 0"
withdrawal_good : fields_good 7 200 0 0 ≡ true
withdrawal_good = refl

withdrawal_a : fields_good 7 5 1 0 ≡ false
withdrawal_a = refl

withdrawal_b : fields_good 7 5 0 1 ≡ false
withdrawal_b = refl

-- a transmit has no stream octet
transmit_stream : fields_good 6 5 0 0 ≡ false
transmit_stream = refl

-- the kinds end with 7
kind_8_unknown : fields_good 8 0 0 0 ≡ false
kind_8_unknown = refl
