mod Short
