-- Three truths: false below unknown below true.
use Rattle.std.specs.Prelude.{Bool, true, false}
use Rattle.iq_truth.specs.declared.truth.Truth.{Truth}
use Rattle.iq_truth.specs.declared.truth.Truth.TheVariants.{False, Unknown, True}

-- what is known to hold, or not
abbrev pub truth_of : Bool → Truth
truth_of true = True
truth_of false = False

-- NOT exchanges true and false
abbrev pub truth_not : Truth → Truth
truth_not False = True
truth_not Unknown = Unknown
truth_not True = False

-- AND is the lesser
abbrev pub truth_and : Truth → Truth → Truth
truth_and False False = False
truth_and False Unknown = False
truth_and False True = False
truth_and Unknown False = False
truth_and Unknown Unknown = Unknown
truth_and Unknown True = Unknown
truth_and True False = False
truth_and True Unknown = Unknown
truth_and True True = True

-- OR is the greater
abbrev pub truth_or : Truth → Truth → Truth
truth_or False False = False
truth_or False Unknown = Unknown
truth_or False True = True
truth_or Unknown False = Unknown
truth_or Unknown Unknown = Unknown
truth_or Unknown True = True
truth_or True False = True
truth_or True Unknown = True
truth_or True True = True
