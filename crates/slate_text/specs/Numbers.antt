-- How numbers and moments are spelled.
use Rattle.std.specs.Prelude.{ℕ, ◌+◌, ◌^◌, ◌==◌, ◌&&◌, List, [], ◌∷◌, take, drop, Option, Some, None, ℤ, pos, nat_lt, if◌then◌else◌, option_and_then}
use Rattle.std.specs.Option.{option_map}
use Rattle.std.specs.List.{list_all, position}
use Rattle.std.specs.Char.{is_ascii_digit}
use Rattle.std.specs.Str.Parse.{digits_value}

-- the number that one or more decimal digits spell, where it is below a limit
abbrev pub number_below : ℕ → List ℕ → Option ℕ
number_below limit [] = None
number_below limit (b ∷ bs) =
    if list_all is_ascii_digit (b ∷ bs) && nat_lt (digits_value 10 (b ∷ bs)) limit then Some (digits_value 10 (b ∷ bs)) else None

-- a number
abbrev pub number_of : List ℕ → Option ℕ
number_of field = number_below (2 ^ 64) field

-- a time in milliseconds, from 0 to the greatest that an i64 has
abbrev pub time_of : List ℕ → Option ℤ
time_of field = option_map (λ n. pos n) (number_below (2 ^ 63) field)

-- a time and no second one
abbrev pub one_time : Option ℤ → Option (ℤ × Option ℤ)
one_time first = option_map (λ t. (t, None)) first

-- a time and a second one
abbrev pub two_times : Option ℤ → Option ℤ → Option (ℤ × Option ℤ)
two_times first second = option_and_then (λ t. option_map (λ s. (t, Some s)) second) first

-- what a field with its first slash here, or with none, spells
abbrev pub moment_at : List ℕ → Option ℕ → Option (ℤ × Option ℤ)
moment_at field None = one_time (time_of field)
moment_at field (Some slash) = two_times (time_of (take slash field)) (time_of (drop (slash + 1) field))

-- a moment: a time, or two with a slash between, of which the other is the second moment
abbrev pub moment_of : List ℕ → Option (ℤ × Option ℤ)
moment_of field = moment_at field (position (λ b. b == 47) field)
