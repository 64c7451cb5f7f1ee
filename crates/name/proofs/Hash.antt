-- The hash, a unit at a time. Assumes nothing.
use Rattle.std.proofs.Common.{◌≡◌, ℕ, ◌+◌, ◌<◌, ◌≤◌, List, length, get_or, drop, add-one, drop_of_length-le, drop-cons}
use Rattle.name.specs.Hash.{hash_from, mixed}

-- from h over the units from n on
module _ (us : List ℕ) (n h : ℕ) where
  pub hash_more : n < length us → hash_from h (drop n us) ≡ hash_from (mixed h (get_or us n 0)) (drop (n + 1) us)
  unfolding hash_from
  hash_more k = rw (drop-cons us n 0 k, add-one n)

  pub hash_end : length us ≤ n → hash_from h (drop n us) ≡ h
  unfolding hash_from
  hash_end k = rw (drop_of_length-le us k)
