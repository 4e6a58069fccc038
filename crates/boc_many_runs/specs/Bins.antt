-- A histogram.
use Rattle.std.specs.Prelude.{ℕ, ◌+◌, ◌*◌, ◌-◌, ◌/◌, nat_lt, min, Bool, ◌&&◌, not, List, map}
use Rattle.std.specs.List.{count_by, range_with_len}
use Rattle.boc_many_runs.specs.declared.bins.Bin.{Bin}
use Rattle.boc_many_runs.specs.declared.bins.TheConstants.{MOST_BINS}

-- how wide each bin is: a tenth of the numbers from the least to the most, rounded up
abbrev pub width_of : ℕ → ℕ → ℕ
width_of least most = (most - least) / MOST_BINS + 1

-- how many bins there are: up to the one that has the most
abbrev pub bins_for : ℕ → ℕ → ℕ
bins_for least most = (most - least) / width_of least most + 1

-- whether a number is one of those from the first to the last
abbrev pub is_within : ℕ → ℕ → ℕ → Bool
is_within first last x = not (nat_lt x first) && not (nat_lt last x)

-- how many numbers are within
abbrev pub many_within : List ℕ → ℕ → ℕ → ℕ
many_within xs first last = count_by (is_within first last) xs

-- the first number of the bin at this place
abbrev pub first_of : ℕ → ℕ → ℕ → ℕ
first_of least most place = least + place * width_of least most

-- and its last one: that before the next bin's first, but no more than the most
abbrev pub last_of : ℕ → ℕ → ℕ → ℕ
last_of least most place = min most (first_of least most place + (most - least) / MOST_BINS)

-- the bin at this place
abbrev pub bin_at : List ℕ → ℕ → ℕ → ℕ → Bin
bin_at xs least most place = record {
  first = first_of least most place;
  last = last_of least most place;
  runs = many_within xs (first_of least most place) (last_of least most place);
}

-- all bins of numbers from the least to the most
abbrev pub bins_of : List ℕ → ℕ → ℕ → List Bin
bins_of xs least most = map (bin_at xs least most) (range_with_len 0 (bins_for least most))
