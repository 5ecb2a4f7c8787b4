-- Document 01, "Numbers that come back".
use Rattle.std.specs.Prelude.{ℕ}
use Rattle.terms.specs.declared.Refusal.{Refusal}
use Rattle.terms.specs.declared.Refusal.TheVariants.{BadSizes, BadStorage, CouldNotReadHeader, BadHeader, TooLong, Full, NoStream, ExceededMaxFragments, CouldNotFindFragmentById, FragmentWithUnevenNumberOfFragments, AlreadyProcessedFragment, MissingAckHeader, BadState}

abbrev pub number_of : Refusal → ℕ
number_of BadSizes = 1
number_of BadStorage = 2
number_of CouldNotReadHeader = 3
number_of BadHeader = 4
number_of TooLong = 5
number_of Full = 6
number_of NoStream = 7
number_of ExceededMaxFragments = 8
number_of CouldNotFindFragmentById = 9
number_of FragmentWithUnevenNumberOfFragments = 10
number_of AlreadyProcessedFragment = 11
number_of MissingAckHeader = 12
number_of BadState = 13
