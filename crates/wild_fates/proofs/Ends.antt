-- The checks of a memory region, by what its origin and its length are.
use Rattle.std.proofs.Common.{◌≡◌, ◌∙◌, ℕ, ◌+◌, ◌^◌, Bool, true, false, List, cond, refl, inl, inr, None, Ok, Err}
use Rattle.std.specs.Prelude.{nat_lt}
use Rattle.wild_names.specs.declared.fault.Fault.{Fault}
use Rattle.wild_names.specs.declared.fault.Fault.TheVariants.{Overflow}
use Rattle.wild_script_tree.specs.declared.tree.MemoryRegion.{MemoryRegion}
use Rattle.wild_value_spec.specs.Answer.{Gives}
use Rattle.wild_value_spec.specs.Const.{Constant, const, number_in}
use Rattle.wild_value_spec.specs.Value.{sum_of}
use Rattle.wild_value_spec.specs.declared.region.Region.{Region}
use Rattle.wild_plan_spec.specs.Checks.{Check, check, failing, number_checks, region_checks}
use Rattle.wild_plan_spec.specs.Regions.{region_of}
use Rattle.wild_fates.specs.Numbers.{number_or_fault}
use Rattle.wild_fates.specs.Passes.{IsWanted}

-- ---- a number

module _ (n : ℕ) (more : ℕ → List Check) where
  -- without a number its fault is wanted
  wanted_number : (c : Constant) (fault : Fault) → Err fault ≡ number_or_fault n c → IsWanted (failing (number_checks n c more)) fault
  wanted_number (Ok v) fault h = cc
  wanted_number (Err e) fault h = inr cc

  -- with a number the other checks of it decide
  number_after : (c : Constant) (v : ℕ) → Ok v ≡ number_or_fault n c → number_checks n c more ≡ more v
  number_after (Ok w) v h = let same : w ≡ v = cc in rw same refl
  number_after (Err e) v h = cc

number_is : (n : ℕ) (c : Constant) (v : ℕ) → Ok v ≡ number_or_fault n c → v ≡ number_in c
number_is n (Ok w) v h = cc
number_is n (Err e) v h = cc

-- ---- a sum

none_by : (b : Bool) (s x : ℕ) (fault : Fault) → cond b (Ok s) (Err fault) ≡ Ok x → failing (check b fault) ≡ None
none_by true s x fault h = refl
none_by false s x fault h = cc

wanted_by : (b : Bool) (s : ℕ) (fault other : Fault) → cond b (Ok s) (Err fault) ≡ Err other → IsWanted (failing (check b fault)) other
wanted_by true s fault other h = cc
wanted_by false s fault other h = inr cc

abbrev sum_check : ℕ → ℕ → List Check
sum_check x y = check (nat_lt (x + y) (2 ^ 64)) (Overflow x y)

sum_passes : (x y s : ℕ) → Gives (Ok s) (sum_of x y) → failing (sum_check x y) ≡ None
unfolding sum_of
sum_passes x y s h = none_by (nat_lt (x + y) (2 ^ 64)) (x + y) s (Overflow x y) h

wanted_sum : (x y : ℕ) (fault : Fault) → Gives (Err fault) (sum_of x y) → IsWanted (failing (sum_check x y)) fault
unfolding sum_of
wanted_sum x y fault (inl h) = inl h.0
wanted_sum x y fault (inr h) = wanted_by (nat_lt (x + y) (2 ^ 64)) (x + y) (Overflow x y) fault h

-- ---- a region

module _ (n : ℕ) (r : MemoryRegion) where
  abbrev length_checks : ℕ → List Check
  length_checks origin = number_checks n (const r.length) (sum_check origin)

  pub wanted_origin : (fault : Fault) → Err fault ≡ number_or_fault n (const r.origin) → IsWanted (failing (region_checks n r)) fault
  wanted_origin fault h = wanted_number n length_checks (const r.origin) fault h

  module _ (origin : ℕ) (is_origin : Ok origin ≡ number_or_fault n (const r.origin)) where
    after_origin : region_checks n r ≡ length_checks origin
    after_origin = number_after n length_checks (const r.origin) origin is_origin

    pub wanted_length : (fault : Fault) → Err fault ≡ number_or_fault n (const r.length) → IsWanted (failing (region_checks n r)) fault
    wanted_length fault h = rw after_origin (wanted_number n (sum_check origin) (const r.length) fault h)

    module _ (length : ℕ) (is_length : Ok length ≡ number_or_fault n (const r.length)) where
      after_length : region_checks n r ≡ sum_check origin length
      after_length = after_origin ∙ number_after n (sum_check origin) (const r.length) length is_length

      pub wanted_end : (fault : Fault) → Gives (Err fault) (sum_of origin length) → IsWanted (failing (region_checks n r)) fault
      wanted_end fault h = rw after_length (wanted_sum origin length fault h)

      pub no_fault : (s : ℕ) → Gives (Ok s) (sum_of origin length) → failing (region_checks n r) ≡ None
      no_fault s h = rw after_length (sum_passes origin length s h)

      abbrev made : Region
      made = record { origin = origin; length = length }

      pub region_is : made ≡ region_of r
      region_is = rw (number_is n (const r.origin) origin is_origin, number_is n (const r.length) length is_length) refl
