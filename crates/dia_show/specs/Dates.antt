-- Time as a date and a time of day in UTC (RFC 6733 section 4.3.1).
use Rattle.std.specs.Prelude.{ℕ, ◌+◌, ◌*◌, ◌-◌, ◌/◌, ◌%◌, ◌^◌, nat_le, nat_lt, List, [], ◌∷◌, ◌++◌, min}
use Rattle.std.specs.Prelude.{codes, decimal, if◌then◌else◌}
use Rattle.std.specs.Option.{option_map_or}
use Rattle.std.specs.List.{find}

-- seconds since 1 January 1900, 0 h: a number without the high bit is counted from 7 February 2036, 06:28:16, when 32
-- bits begin anew (RFC 5905 section 6), so that numbers are times from 1968 to 2104
abbrev pub seconds_of : ℕ → ℕ
seconds_of number = if nat_lt number (2 ^ 31) then number + 2 ^ 32 else number

-- 2100 has no 29 February: from 1 March 2100 on one day more is counted, and each fourth year is then a leap year
abbrev pub even_days : ℕ → ℕ
even_days days = if nat_lt days 73108 then days else days + 1

-- a day's place in the four years that it is in, of which the first is 1901: four years have 1461 days
abbrev pub day_of_four : ℕ → ℕ
day_of_four days = (even_days days - 365) % 1461

-- which of the four years it is in, from 0; the last is the leap year
abbrev pub year_of_four : ℕ → ℕ
year_of_four days = min (day_of_four days / 365) 3

-- the year of the day that comes so many days after 1 January 1900, from 1901 on
abbrev pub year_of : ℕ → ℕ
year_of days = 1901 + (even_days days - 365) / 1461 * 4 + year_of_four days

-- its place in a leap year, from 0: in other years the days behind 28 February come one later
abbrev pub leap_day : ℕ → ℕ → ℕ
leap_day year day = if nat_le 3 year then day else (if nat_lt day 59 then day else day + 1)

-- the same of a day
abbrev pub day_of_year : ℕ → ℕ
day_of_year days = leap_day (year_of_four days) (day_of_four days - year_of_four days * 365)

-- the months with the day of a leap year, from 0, on which each begins, the last first
abbrev pub months : List (ℕ × ℕ)
months =
    (12, 335) ∷ (11, 305) ∷ (10, 274) ∷ (9, 244)
    ∷ (8, 213) ∷ (7, 182) ∷ (6, 152) ∷ (5, 121) ∷ (4, 91) ∷ (3, 60) ∷ (2, 31) ∷ []

-- the last month that has begun by a day of a leap year, and the day on which it began
unfoldable pub month_at : ℕ → ℕ × ℕ
month_at day = option_map_or (λ (m : ℕ × ℕ). m) (find (λ (m : ℕ × ℕ). nat_le m.1 day) months) (1, 0)

-- a number below 100 in two digits
abbrev pub two_digits : ℕ → List ℕ
two_digits n = (48 + n / 10) ∷ (48 + n % 10) ∷ []

-- `2024-02-29`
abbrev pub date_text : ℕ → List ℕ
date_text days =
    decimal (year_of days) ++ codes "-" ++ two_digits (month_at (day_of_year days)).0
    ++ codes "-" ++ two_digits (day_of_year days - (month_at (day_of_year days)).1 + 1)

-- `T23:59:59Z`
abbrev pub clock_text : ℕ → List ℕ
clock_text seconds =
    codes "T" ++ two_digits (seconds / 3600) ++ codes ":" ++ two_digits (seconds / 60 % 60)
    ++ codes ":" ++ two_digits (seconds % 60) ++ codes "Z"

-- `2024-03-01T23:59:59Z`
abbrev pub utc_text : ℕ → List ℕ
utc_text number = date_text (seconds_of number / 86400) ++ clock_text (seconds_of number % 86400)

-- `3918326399 2024-03-01T23:59:59Z`
abbrev pub time_text : ℕ → List ℕ
time_text number = decimal number ++ codes " " ++ utc_text number
