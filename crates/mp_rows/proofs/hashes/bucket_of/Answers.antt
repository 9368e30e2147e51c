use Rattle.std.proofs.Common.{◌^◌, refl}
use Rattle.std.proofs.lemmas.Nat.{mul-lt}
use Rattle.mp_rows.specs.Hashes.{bucket}
use Rattle.mp_rows.proofs.BucketLemmas.{bucket_small}
use Rattle.mp_rows.proofs.hashes.bucket_of.Goals as goal

pub overflow_mul-result : goal.overflow_mul-result
overflow_mul-result c = record { fits = mul-lt c.args.hash c.args.buckets (2 ^ 32) (2 ^ 32) c.ranges.hash.fits c.requires.few }

pub returns-clause-is : goal.returns-clause-is
unfolding bucket
returns-clause-is c = refl

pub returns-clause-within : goal.returns-clause-within
returns-clause-within c = bucket_small c.args.hash c.args.buckets c.ranges.hash.fits c.requires.some
